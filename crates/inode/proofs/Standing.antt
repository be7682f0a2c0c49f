-- What the changes that append nothing make of an inode.
use Rattle.std.proofs.Common.{◌≡◌, ℕ, cond, ◌/◌, ◌%◌, Bool, List, [], length, get_or, replicate, inl, inr, Option, None, ap, sym, ◌∙◌, arith}
use Rattle.std.proofs.lemmas.Bool.{cond_both, cases_lt}
use Rattle.std.proofs.lemmas.List.{length-replicate, get_or-replicate, get_or_past}
use Rattle.s4_types.specs.Pointer.{Place}
use Rattle.s4_types.specs.declared.versions.Version.TheVariants.{Absent, Live}
use Rattle.s4_types.specs.declared.changes.Change.TheVariants.{SetAttr}
use Rattle.s4_types.specs.declared.limits.TheConstants.{OBJECT_BLOCKS}
use Rattle.s4_model.specs.Effect.{effect}
use Rattle.codec.specs.Checkpoint.{pointer_at, holes}
use Rattle.codec.specs.declared.inodes.Inode.{Inode}
use Rattle.inode.specs.Contents.{listed, byte_in, byte_of, bytes_of, meaning}
use Rattle.inode.specs.Tidiness.{Tidy}

pub replicate_hole : (count k : ℕ) → get_or {A = Option Place} (replicate count None) k None ≡ None
replicate_hole count k =
    elim (cases_lt k count) [
      | inl below ↦ get_or-replicate {A = Option Place} count k None None below
      | inr past ↦ let all : length {A = Option Place} (replicate count None) ≡ count = length-replicate {A = Option Place} count None in get_or_past {X = Option Place} (replicate count None) k None (omega arith)
    ]

pub hole_at : (pointers : List (Option Place)) (count k : ℕ) → pointers ≡ holes count → get_or pointers k None ≡ None
unfolding holes
hole_at pointers count k e = ap (λ l. get_or l k None) e ∙ replicate_hole count k

pub no_bytes : (contents : Place → List ℕ) (i : Inode) → i.size ≡ 0 → bytes_of contents i ≡ []
unfolding listed
no_bytes contents i e = ap (λ n. listed (byte_of contents i) 0 n) e

pub byte_of-hole : (contents : Place → List ℕ) (i : Inode) (n : ℕ) → pointer_at i (n / 512) ≡ None → byte_of contents i n ≡ 0
unfolding byte_of
byte_of-hole contents i n e = ap (λ s. byte_in contents s (n % 512)) e

pub tidy_empty : (contents : Place → List ℕ) (i : Inode) → i.pointers ≡ holes OBJECT_BLOCKS → i.size ≡ 0 → Tidy contents i
unfolding holes
tidy_empty contents i none size = record {
  count = ap length none ∙ length-replicate {A = Option Place} OBJECT_BLOCKS None;
  size = omega arith;
  holes = λ k le. hole_at i.pointers OBJECT_BLOCKS k none;
  zeros = λ n le. byte_of-hole contents i n (hole_at i.pointers OBJECT_BLOCKS (n / 512) none);
}

pub tidy_as_before : (contents : Place → List ℕ) (i : Inode) (alive : Bool) (created changed : ℕ) (attribute : List ℕ) → Tidy contents i
    → Tidy contents (record { alive = alive; size = i.size; created = created; changed = changed; attribute = attribute; pointers = i.pointers })
unfolding byte_of
tidy_as_before contents i alive created changed attribute tidy = record { count = tidy.count; size = tidy.size; holes = tidy.holes; zeros = tidy.zeros }

pub with_attribute_means : (contents : Place → List ℕ) (i : Inode) (attribute : List ℕ) (object moment : ℕ)
    → meaning contents (record { alive = i.alive; size = i.size; created = i.created; changed = moment; attribute = attribute; pointers = i.pointers }) ≡ effect (SetAttr object attribute) moment (meaning contents i)
unfolding byte_of
with_attribute_means contents i attribute object moment =
    cond_both i.alive (Live (bytes_of contents i) attribute i.created moment) Absent
    (λ v. v ≡ effect (SetAttr object attribute) moment (cond i.alive (Live (bytes_of contents i) i.attribute i.created i.changed) Absent))
    (λ e. ap (λ b. effect (SetAttr object attribute) moment (cond b (Live (bytes_of contents i) i.attribute i.created i.changed) Absent)) (sym e))
    (λ e. ap (λ b. effect (SetAttr object attribute) moment (cond b (Live (bytes_of contents i) i.attribute i.created i.changed) Absent)) (sym e))
