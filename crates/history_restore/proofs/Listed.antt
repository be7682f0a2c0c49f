-- Whether any object of a drive is there, by what is listed.
use Rattle.std.proofs.Common.{◌≡◌, ◌∙◌, ◌<◌, ◌||◌, ℕ, Bool, true, false, Option, None, Some, refl, sym, ap, subst, arith}
use Rattle.std.specs.Prelude.{if◌then◌else◌}
use Rattle.std.proofs.lemmas.Option.{none-some, same_Some}
use Rattle.s4_types.specs.declared.versions.Version.{Version}
use Rattle.s4_types.specs.declared.versions.Version.TheVariants.{Absent, Live}
use Rattle.codec.specs.declared.inodes.Inode.{Inode}
use Rattle.s4_model.specs.State.{State}
use Rattle.s4_model.specs.VersionAt.{version_of}
use Rattle.s4_model.specs.Visible.{IsVisible}
use Rattle.s4_model.specs.Refusals.{is_absent}
use Rattle.s4_model.specs.Sound.{IsSound}
use Rattle.version_store.specs.Store.{StoreFields}
use Rattle.version_store.specs.Versions.{inode_in}
use Rattle.history_view.specs.declared.listing.Listed.{Listed}
use Rattle.history_view.specs.Listing.{IsListedNext, IsPassed, TellsVersion, is_visible, listed_by, listed_of}
use Rattle.history_view.proofs.Shown.{clock_is_visible}
use Rattle.history_restore.specs.Presence.{HasNone, HasObject}

chosen : (b : Bool) (l listed : Listed) → (if b || false then Some l else None) ≡ Some listed → (b ≡ true) × (l ≡ listed)
chosen true l listed is = (refl, same_Some l listed is)
chosen false l listed is = absurd (none-some listed is)

shown : (b : Bool) (found : Option Listed) (listed : Listed) → (if b then found else None) ≡ Some listed → found ≡ Some listed
shown true found listed is = is
shown false found listed is = absurd (none-some listed is)

-- what is listed without those that were deleted is live
live_by : (o : ℕ) (i : Option Inode) (listed : Listed) → listed_by false o i ≡ Some listed → listed.is_live ≡ true
live_by o None listed is = absurd (none-some listed is)
live_by o (Some i) listed is = let both = chosen i.alive (listed_of o i) listed is in sym (ap (λ (l : Listed). l.is_live) both.1) ∙ both.0

there_if : (version : Version) (listed : Listed) → TellsVersion version listed → listed.is_live ≡ true → is_absent version ≡ false
there_if Absent listed tells live = absurd (tells live)
there_if (Live content attribute created changed) listed tells live = refl

-- an object that is listed at the clock is there
pub listed_is_there : (s : State) (store : StoreFields) (t after : ℕ) (listed : Listed) → t ≡ s.clock → IsListedNext s store false t after listed → HasObject s
listed_is_there s store t after listed now next =
    let o : ℕ = listed.object in
    let live : listed.is_live ≡ true = live_by o (inode_in store o t) listed (shown (is_visible s o t) (listed_by false o (inode_in store o t)) listed next.here.found) in
    (o, subst (λ k. is_absent (version_of s o k) ≡ false) now (there_if (version_of s o t) listed next.here.version live))

-- where nothing is listed then none is there
pub none_is_there : (s : State) (store : StoreFields) (t after : ℕ) → t ≡ s.clock → after ≡ 0 → IsSound s → ((o : ℕ) → after < o → IsPassed s store false t o) → HasNone s
none_is_there s store t after now first sound passed o above =
    subst (λ k. version_of s o k ≡ Absent) now ((passed o (omega (arith, first, above))).absent (subst (IsVisible s o) (sym now) (clock_is_visible s o sound)))
