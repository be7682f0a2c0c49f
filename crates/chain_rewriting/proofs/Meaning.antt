-- A mapped inode means over bytes at the new places what the inode meant.
use Rattle.std.proofs.Common.{◌≡◌, ℕ, ◌+◌, ◌/◌, ◌%◌, Bool, cond, inl, inr, List, Option, Some, None, refl, sym, ap, subst, ◌∙◌}
use Rattle.std.specs.Prelude.{IfSome}
use Rattle.std.proofs.lemmas.List.{length-map}
use Rattle.s4_types.specs.Pointer.{Place}
use Rattle.s4_types.specs.declared.versions.Version.TheVariants.{Absent, Live}
use Rattle.codec.specs.declared.inodes.Inode.{Inode}
use Rattle.codec.specs.Checkpoint.{pointer_at}
use Rattle.undo_redo.specs.Runs.{inode_after}
use Rattle.inode.specs.Contents.{byte_in, byte_of, bytes_of, meaning}
use Rattle.inode.specs.Tidiness.{Tidy, AgreeAt}
use Rattle.inode.specs.Laws.{OnlyItsBlocksMatter, EqualRanges}
use Rattle.chain_rewriting.specs.CleaningLaws.{PointsWithin}
use Rattle.chain_rewriting.specs.Mapping.{mapped_slot, mapped_inode, KeepsContents}
use Rattle.chain_rewriting.specs.MappingLaws.{AMappedInodeMeansTheSame, AMappedChainShowsTheSame}
use Rattle.chain_rewriting.specs.Renaming.{RenamingFields, new_place, renamed}
use Rattle.chain_rewriting.specs.Apart.{Passes, HasCopies}
use Rattle.chain_rewriting.specs.RenamingLaws.{ARenamedInodeMeansTheSame, ARenamedChainShowsTheSame}
use Rattle.chain_rewriting.proofs.Mapped.{pointer_mapped, inode_after_mapped}
use Rattle.chain_rewriting.proofs.Rules.{slot_is, renamed_stays, renamed_moves}
use Rattle.chain_rewriting.proofs.Told.{points_within}

-- the bytes at the place to which each place is mapped
abbrev pub through : (Place → Place) → (Place → List ℕ) → Place → List ℕ
through f others p = others (f p)

byte_in_mapped : (f : Place → Place) (others : Place → List ℕ) (slot : Option Place) (n : ℕ) → byte_in others (mapped_slot f slot) n ≡ byte_in (through f others) slot n
byte_in_mapped f others None n = refl
byte_in_mapped f others (Some p) n = refl

byte_of_mapped : (f : Place → Place) (others : Place → List ℕ) (i : Inode) (n : ℕ) → byte_of others (mapped_inode f i) n ≡ byte_of (through f others) i n
unfolding byte_of
byte_of_mapped f others i n =
    ap (λ slot. byte_in others slot (n % 512)) (pointer_mapped f i (n / 512)) ∙ byte_in_mapped f others (pointer_at i (n / 512)) (n % 512)

meaning_through : EqualRanges → (f : Place → Place) (others : Place → List ℕ) (i : Inode) → meaning others (mapped_inode f i) ≡ meaning (through f others) i
meaning_through ranges f others i =
    let bytes : bytes_of others (mapped_inode f i) ≡ bytes_of (through f others) i = ranges (byte_of others (mapped_inode f i)) (byte_of (through f others) i) 0 0 i.size (λ n lt. byte_of_mapped f others i (0 + n)) in
    ap (λ bs. cond i.alive (Live bs i.attribute i.created i.changed) Absent) bytes

tidy_through : (f : Place → Place) (others : Place → List ℕ) (i : Inode) → Tidy (through f others) i → Tidy others (mapped_inode f i)
tidy_through f others i tidy = record {
  count = length-map i.pointers (mapped_slot f) ∙ tidy.count;
  size = tidy.size;
  holes = λ k le. pointer_mapped f i k ∙ ap (mapped_slot f) (tidy.holes k le);
  zeros = λ n le. byte_of_mapped f others i n ∙ tidy.zeros n le;
}

agree_through : (Is : Place → Type 0) (f : Place → Place) (contents others : Place → List ℕ) (i : Inode) → KeepsContents Is f contents others → PointsWithin Is i → AgreeAt contents (through f others) i
agree_through Is f contents others i keeps points k p at =
    let is : Is p = subst (λ (slot : Option Place). IfSome slot Is) at (points k) in
    keeps p is

pub means_the_same : OnlyItsBlocksMatter → EqualRanges → (Is : Place → Type 0) (f : Place → Place) → AMappedInodeMeansTheSame Is f
means_the_same matter ranges Is f contents others i keeps points =
    let agree : AgreeAt contents (through f others) i = agree_through Is f contents others i keeps points in
    let same = matter contents (through f others) i agree in
    (meaning_through ranges f others i ∙ same.0, λ tidy. tidy_through f others i (same.1 tidy))

pub shows_the_same : OnlyItsBlocksMatter → EqualRanges → (Is : Place → Type 0) (f : Place → Place) → AMappedChainShowsTheSame Is f
shows_the_same matter ranges Is f contents others first entries t keeps told =
    let is = inode_after_mapped f first entries t in
    let means = means_the_same matter ranges Is f contents others (inode_after first entries t) keeps (points_within Is first entries t told) in
    (ap (meaning others) is ∙ means.0, λ tidy. subst (λ (i : Inode). Tidy others i) (sym is) (means.1 tidy))

-- ---- copied blocks

copied_at : (Is : Place → Type 0) (r : RenamingFields) (contents others : Place → List ℕ) → HasCopies Is r contents others → KeepsContents Is (renamed r) contents others
copied_at Is r contents others copies p is = elim (slot_is (new_place r p)) [
  | inl stays ↦ ap others (renamed_stays r p stays) ∙ copies.stayed p is stays
  | inr moves ↦ ap others (renamed_moves r p moves.0 moves.1) ∙ copies.copied p moves.0 is moves.1
]

pub renamed_means : ((test : Place → Bool) (f : Place → Place) → AMappedInodeMeansTheSame (Passes test) f) → ARenamedInodeMeansTheSame
renamed_means same test r contents others i copies = same test (renamed r) contents others i (copied_at (Passes test) r contents others copies)

pub renamed_shows : ((test : Place → Bool) (f : Place → Place) → AMappedChainShowsTheSame (Passes test) f) → ARenamedChainShowsTheSame
renamed_shows same test r contents others first entries t copies = same test (renamed r) contents others first entries t (copied_at (Passes test) r contents others copies)
