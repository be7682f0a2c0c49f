-- Judging a request for a version by the present inode of its object.
use Rattle.std.proofs.Common.{◌≡◌, ℕ, ◌+◌, ◌≤◌, inl, inr, Bool, true, false, cond, Option, Some, None, IsSome, List, length, refl, sym, ap, subst, ◌∙◌, arith}
use Rattle.std.proofs.lemmas.Bool.{cases_lt, le-ltb, false≢true}
use Rattle.std.specs.Prelude.{nat_lt, is_some}
use Rattle.s4_types.specs.Pointer.{Place}
use Rattle.s4_types.specs.declared.changes.Change.{Change}
use Rattle.s4_types.specs.declared.changes.Change.TheVariants as change
use Rattle.s4_types.specs.declared.limits.TheConstants.{OBJECT_BYTES, ATTRIBUTE_BYTES}
use Rattle.s4_types.specs.declared.requests.Role.TheVariants.{Admin}
use Rattle.s4_types.specs.declared.requests.ObjectRequest.{ObjectRequest}
use Rattle.s4_types.specs.declared.requests.Request.TheVariants.{Update}
use Rattle.s4_types.specs.declared.requests.ObjectRequest.TheVariants.{Create, Delete, Write, Append, Truncate, SetAttr}
use Rattle.s4_types.specs.declared.refusals.Refusal.{Refusal}
use Rattle.s4_types.specs.declared.refusals.Refusal.TheVariants.{TooLarge, BadAttr}
use Rattle.s4_types.specs.declared.versions.Version.{Version}
use Rattle.s4_types.specs.declared.versions.Version.TheVariants.{Absent, Live}
use Rattle.s4_model.specs.State.{State}
use Rattle.s4_model.specs.Refusals.{live_size_of, present, is_absent, first_refusal}
use Rattle.s4_model.specs.Limits.{Fits}
use Rattle.block_log.specs.Log.{Stored}
use Rattle.codec.specs.declared.inodes.Inode.{Inode}
use Rattle.inode.specs.Contents.{contents_of, bytes_of, meaning}
use Rattle.inode.specs.Laws.{TheSizeCountsTheBytes}
use Rattle.version_store.specs.Store.{StoreFields}
use Rattle.version_store.specs.Versions.{inode_in, version_in, version_by}
use Rattle.version_store.specs.Taking.{Takes, IsReadyFor, IsAboveAll, IsThere}
use Rattle.version_store.specs.Laws.{ThePresentStays}
use Rattle.window.specs.Timeline.{Timeline}
use Rattle.drive.specs.Later.{later_refusal, IsWithin, IsAllowed, HasSize, object_asked}
use Rattle.s4_model.specs.Effect.{object_of}
use Rattle.drive.specs.Keeping.{IsKeptDrive}
use Rattle.drive.specs.Answering.{size_by}
use Rattle.drive.proofs.Kept.{there_is_given, latest_is_present}

-- ---- the present inode

-- the version of an object now is the one that its present inode represents
pub present_is : ThePresentStays → (s : State) (store : StoreFields) (w : Timeline) (next o : ℕ) → IsKeptDrive s store w next → present s o ≡ version_in store o store.latest
present_is stays s store w next o kept = sym (latest_is_present stays s store w next o kept)

size_of_meaning : TheSizeCountsTheBytes → (contents : Place → List ℕ) (i : Inode) → live_size_of (meaning contents i) ≡ cond i.alive (Some i.size) None
size_of_meaning count contents i =
    elim (i.alive) as (λ b. live_size_of (cond b (Live (bytes_of contents i) i.attribute i.created i.changed) Absent) ≡ cond b (Some i.size) None) [
      | true ↦ ap (λ (n : ℕ). Some n) (count contents i)
      | false ↦ refl
    ]

size_of_version : TheSizeCountsTheBytes → (held : Place → Option Stored) (i : Option Inode) → live_size_of (version_by held i) ≡ size_by i
size_of_version count held None = refl
size_of_version count held (Some i) = size_of_meaning count (contents_of held) i

-- its size is what that inode tells
pub size_is : TheSizeCountsTheBytes → ThePresentStays → (s : State) (store : StoreFields) (w : Timeline) (next o : ℕ) (found : Option Inode) → IsKeptDrive s store w next → found ≡ inode_in store o store.latest → live_size_of (present s o) ≡ size_by found
size_is count stays s store w next o found kept is =
    ap (λ (v : Version). live_size_of v) (present_is stays s store w next o kept)
    ∙ size_of_version count store.log.held (inode_in store o store.latest)
    ∙ ap (λ (i : Option Inode). size_by i) (sym is)

alive_is_there : (b : Bool) (bytes attribute : List ℕ) (created changed size : ℕ) → IsSome (cond b (Some size) None) → is_absent (cond b (Live bytes attribute created changed) Absent) ≡ false
alive_is_there true bytes attribute created changed size h = refl
alive_is_there false bytes attribute created changed size h = absurd (false≢true h)

version_is_there : (held : Place → Option Stored) (i : Option Inode) → IsSome (size_by i) → is_absent (version_by held i) ≡ false
version_is_there held None h = absurd (false≢true h)
version_is_there held (Some i) h = alive_is_there i.alive (bytes_of (contents_of held) i) i.attribute i.created i.changed i.size h

-- an object that has a size is there
pub there_is : (store : StoreFields) (o : ℕ) (found : Option Inode) → found ≡ inode_in store o store.latest → IsSome (size_by found) → IsThere store o
there_is store o found is h = subst (λ (i : Option Inode). is_absent (version_by store.log.held i) ≡ false) is (version_is_there store.log.held found h)

-- ---- the checks

pub has_size : (s : State) (update : ObjectRequest) (next : ℕ) (size : Option ℕ) → live_size_of (present s (object_asked next (Update update))) ≡ size → HasSize s update size
has_size s (Create attribute) next size h = tt
has_size s (Delete object) next size h = h
has_size s (Write object offset bytes) next size h = h
has_size s (Append object bytes) next size h = h
has_size s (Truncate object n) next size h = h
has_size s (SetAttr object attribute) next size h = h

-- the size that the present inode tells is that of the object that is asked of
pub size_asked : TheSizeCountsTheBytes → ThePresentStays → (s : State) (store : StoreFields) (w : Timeline) (next o at : ℕ) (found : Option Inode) (update : ObjectRequest) (size : Option ℕ)
    → IsKeptDrive s store w next → o ≡ object_asked next (Update update) → at ≡ store.latest → found ≡ inode_in store o at → size ≡ size_by found → HasSize s update size
size_asked count stays s store w next o at found update size kept is now inode tells =
    has_size s update next size
    (ap (λ (x : ℕ). live_size_of (present s x)) (sym is)
    ∙ size_is count stays s store w next o found kept (inode ∙ ap (λ (t : ℕ). inode_in store o t) now)
    ∙ sym tells)

passes : (limit n : ℕ) (r : Refusal) (rest : Option Refusal) → n ≤ limit → cond (nat_lt limit n) (Some r) rest ≡ rest
passes limit n r rest le = ap (λ (b : Bool). cond b (Some r) rest) (le-ltb limit n le)

-- an administrator's change of an object within the limits is refused by the later checks alone
pub admin_is_later : (s : State) (update : ObjectRequest) → IsWithin (Update update) → first_refusal s Admin (Update update) ≡ later_refusal s (Update update)
admin_is_later s (Create attribute) within = passes ATTRIBUTE_BYTES (length attribute) BadAttr _ within
admin_is_later s (Delete object) within = refl
admin_is_later s (Write object offset bytes) within = passes OBJECT_BYTES (offset + length bytes) TooLarge _ within
admin_is_later s (Append object bytes) within = refl
admin_is_later s (Truncate object n) within = passes OBJECT_BYTES n TooLarge _ within
admin_is_later s (SetAttr object attribute) within = passes ATTRIBUTE_BYTES (length attribute) BadAttr _ within

-- ---- what a store takes

-- the next object's number is above that of each object that has a row
pub next_above : (s : State) (store : StoreFields) (w : Timeline) (next object : ℕ) → IsKeptDrive s store w next → object ≡ next → IsAboveAll store object
next_above s store w next object kept is q there = elim (cases_lt q object) [
  | inl less ↦ less
  | inr most ↦
      let number : next ≡ s.next = kept.next in
      absurd (false≢true (sym (ap is_some (kept.unborn q (omega (arith, is, number, most)))) ∙ there))
]

-- what is allowed by the present size can be taken
is_ready : ThePresentStays → (s : State) (store : StoreFields) (w : Timeline) (next : ℕ) (size : Option ℕ) (c : Change) → IsKeptDrive s store w next → IsAllowed next size c → (IsSome size → IsThere store (object_of c)) → (IsReadyFor store c) × (1 ≤ object_of c)
is_ready stays s store w next size (change.Create object attribute) kept allowed there =
    let o : object ≡ next = allowed.0 in
    let n : next ≡ s.next = kept.next in
    let low : 1 ≤ s.next = kept.sound.numbered in
    (next_above s store w next object kept o, omega arith)
is_ready stays s store w next size (change.Delete object) kept allowed there = (there allowed, (there_is_given stays s store w next object kept (there allowed)).0)
is_ready stays s store w next size (change.Write object offset bytes) kept allowed there = (there allowed, (there_is_given stays s store w next object kept (there allowed)).0)
is_ready stays s store w next size (change.Truncate object n) kept allowed there = (there allowed, (there_is_given stays s store w next object kept (there allowed)).0)
is_ready stays s store w next size (change.SetAttr object attribute) kept allowed there = (there allowed, (there_is_given stays s store w next object kept (there allowed)).0)
is_ready stays s store w next size (change.SetWindow window) kept allowed there = absurd allowed
is_ready stays s store w next size (change.Flush first last) kept allowed there = absurd allowed
is_ready stays s store w next size (change.FlushO object first last) kept allowed there = absurd allowed

pub can_take : ThePresentStays → (s : State) (store : StoreFields) (w : Timeline) (next o : ℕ) (found : Option Inode) (c : Change) → IsKeptDrive s store w next → found ≡ inode_in store o store.latest → object_of c ≡ o → Fits c → IsAllowed next (size_by found) c → Takes store c
can_take stays s store w next o found c kept is same fits allowed =
    let there : IsSome (size_by found) → IsThere store (object_of c) = λ h. subst (λ (x : ℕ). IsThere store x) (sym same) (there_is store o found is h) in
    let ready = is_ready stays s store w next (size_by found) c kept allowed there in
    record { fits = fits; numbered = ready.1; ready = ready.0 }
