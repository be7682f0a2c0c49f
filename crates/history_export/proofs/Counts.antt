-- Versions that are read one after the other are read together.
use Rattle.std.proofs.Common.{◌≡◌, ◌∙◌, ◌+◌, ◌<◌, ◌≤◌, ◌++◌, ◌⊎◌, ℕ, take, List, [], ◌∷◌, length, get_or, Option, None, inl, inr, sym, ap, ap₂, subst, append_assoc, arith}
use Rattle.std.specs.List.{flat_map}
use Rattle.std.specs.Io.KnownBytes.{Appends}
use Rattle.std.proofs.KnownBytes.{Appends-trans, Appends-nil}
use Rattle.lemmas.proofs.List.{map_take_next}
use Rattle.std.proofs.lemmas.List.{length-append, take_all}
use Rattle.std.proofs.lemmas.List.Concat.{flat_map-append}
use Rattle.std.proofs.lemmas.List.Sums.{sum_by-append}
use Rattle.sha2.specs.Hashers.{Holds256}
use Rattle.sha2.specs.Sha256.{sha256}
use Rattle.s4_model.specs.State.{State}
use Rattle.object_map.specs.Objects.{IsNextAbove}
use Rattle.object_map.specs.Rows.{row_of}
use Rattle.version_store.specs.Store.{StoreFields}
use Rattle.history_export.specs.declared.checking.CheckReport.{CheckReport}
use Rattle.history_export.specs.declared.checking.Checked.{Checked}
use Rattle.history_export.specs.declared.checking.Reading.{Reading}
use Rattle.history_export.specs.Versions.{beginnings_of, pairs_at, pairs_of, size_at, bytes_at, content_in, contents_at}
use Rattle.history_export.specs.Checks.{ChecksAll, HasRead, capped, none_read, with_read}
use Rattle.history_view.specs.Logs.{AreRowsFrom}
use Rattle.history_view.proofs.Fronts.{IsFront, front_begun, front_more, front_whole, flat_more}

-- ---- counts

capped_more : (n a b : ℕ) → capped (capped (n + a) + b) ≡ capped (n + (a + b))
capped_more n a b = omega arith

abbrev checked_by : ℕ → ℕ → Checked
checked_by versions bytes = record { versions = versions; bytes = bytes }

-- what is counted in two parts is counted together
counted_together : (s : State) (c : Checked) (a b : List (ℕ × ℕ)) → with_read s (with_read s c a) b ≡ with_read s c (a ++ b)
counted_together s c a b =
    ap₂ checked_by (capped_more c.versions (length a) (length b) ∙ ap (λ n. capped (c.versions + n)) (sym (length-append a b)))
    (capped_more c.bytes (bytes_at s a) (bytes_at s b) ∙ ap (λ n. capped (c.bytes + n)) (sym (sum_by-append (size_at s) a b)))

-- the bytes of two parts are one after the other
contents_together : (s : State) (a b : List (ℕ × ℕ)) → contents_at s (a ++ b) ≡ contents_at s a ++ contents_at s b
contents_together s a b = flat_map-append (content_in s) a b

-- what is read in two parts is read together
pub read_together : (s : State) (a b : List (ℕ × ℕ)) (c d e : Reading) → HasRead s a c d → HasRead s b d e → HasRead s (a ++ b) c e
read_together s a b c d e first second = record {
  counts = second.counts ∙ ap (λ x. with_read s x b) first.counts ∙ counted_together s c.checked a b;
  hashed = λ message holds. subst (Holds256 e.hasher)
      (append_assoc message (contents_at s a) (contents_at s b) ∙ ap (λ l. message ++ l) (sym (contents_together s a b)))
      (second.hashed (message ++ contents_at s a) (first.hashed message holds));
}

-- ---- the versions of an object

-- The versions of an object at the first of these moments were read, so many: none yet, or some.
abbrev pub ReadTo : State → ℕ → List ℕ → ℕ → Reading → Reading → Type 0
ReadTo s o moments i c d = ((i ≡ 0) × (d ≡ c)) ⊎ HasRead s (pairs_at o (take i moments)) c d

-- the version at the next one was read
pub read_next : (s : State) (o : ℕ) (moments : List ℕ) (i t : ℕ) (c d e : Reading) → i < length moments → t ≡ get_or moments i t → ReadTo s o moments i c d → HasRead s ((o, t) ∷ []) d e → HasRead s (pairs_at o (take (i + 1) moments)) c e
read_next s o moments i t c d e lt here before read =
    subst (λ ps. HasRead s ps c e) (sym (map_take_next (λ q. (o, q)) moments i t lt here)) (elim before [
      | inl none ↦ subst (λ (n : ℕ). HasRead s (pairs_at o (take n moments) ++ (o, t) ∷ []) c e) (sym none.0) (subst (λ (x : Reading). HasRead s ((o, t) ∷ []) x e) none.1 read)
      | inr some ↦ read_together s (pairs_at o (take i moments)) ((o, t) ∷ []) c d e some read
    ])

-- after the last one all were
pub all_read : (s : State) (o : ℕ) (moments : List ℕ) (i : ℕ) (c d : Reading) → 0 < length moments → length moments ≤ i → ReadTo s o moments i c d → HasRead s (pairs_at o moments) c d
all_read s o moments i c d some over (inl none) = absurd (omega (arith, some, over, none.0))
all_read s o moments i c d some over (inr read) = subst (λ ts. HasRead s (pairs_at o ts) c d) (take_all i moments over) read

-- there is always a version to read
pub begins_somewhere : (s : State) (store : StoreFields) (o : ℕ) (moments : List ℕ) → moments ≡ beginnings_of s store o → 0 < length moments
begins_somewhere s store o [] are = absurd cc
begins_somewhere s store o (t ∷ moments) are = omega arith

-- ---- all objects

-- the versions of the objects up to one were read
pub record CheckedTo (s : State) (store : StoreFields) (last : ℕ) (d : Reading) (told told' : Option (List ℕ)) : Type 0 where
  pub objects : List ℕ
  pub front : IsFront (AreRowsFrom store) objects last
  pub counts : d.checked ≡ with_read s none_read (flat_map (pairs_of s store) objects)
  pub hashed : Holds256 d.hasher (contents_at s (flat_map (pairs_of s store) objects))
  pub objects_told : Appends told told' objects

-- none was at first
pub none_checked : (s : State) (store : StoreFields) (d : Reading) (told : Option (List ℕ)) → d.checked ≡ none_read → Holds256 d.hasher [] → CheckedTo s store 0 d told told
none_checked s store d told none empty = record { objects = []; front = front_begun (AreRowsFrom store); counts = none; hashed = empty; objects_told = Appends-nil told }

-- the next one's were
pub checked_on : (s : State) (store : StoreFields) (last o : ℕ) (d d' : Reading) (a b b' : Option (List ℕ)) → CheckedTo s store last d a b → IsNextAbove store.rows last o → HasRead s (pairs_of s store o) d d' → Appends b b' (o ∷ [])
    → CheckedTo s store o d' a b'
checked_on s store last o d d' a b b' before next read told =
    let done = flat_map (pairs_of s store) before.objects in
    let pairs = pairs_of s store o in
    let more : flat_map (pairs_of s store) (before.objects ++ o ∷ []) ≡ done ++ pairs = flat_more (pairs_of s store) before.objects o in
    record {
      objects = before.objects ++ o ∷ [];
      front = front_more (AreRowsFrom store) before.objects o last o before.front (λ rest more. (next, more));
      counts = read.counts ∙ ap (λ x. with_read s x pairs) before.counts ∙ counted_together s none_read done pairs ∙ ap (with_read s none_read) (sym more);
      hashed = subst (Holds256 d'.hasher) (sym (contents_together s done pairs) ∙ ap (contents_at s) (sym more)) (read.hashed (contents_at s done) before.hashed);
      objects_told = Appends-trans a b b' before.objects (o ∷ []) before.objects_told told;
    }

-- all were, where no object is after the last
pub all_checked : (s : State) (store : StoreFields) (last : ℕ) (d : Reading) (report : CheckReport) (a b : Option (List ℕ)) → CheckedTo s store last d a b → ((o : ℕ) → last < o → row_of store.rows o ≡ None)
    → report.checked ≡ d.checked → ((message : List ℕ) → Holds256 d.hasher message → report.digest ≡ sha256 message) → ChecksAll s store report a b
all_checked s store last d report a b before none counts digest = record {
  objects = before.objects;
  have_rows = front_whole (AreRowsFrom store) before.objects last before.front none;
  read = counts ∙ before.counts;
  digest = digest (contents_at s (flat_map (pairs_of s store) before.objects)) before.hashed;
  objects_told = before.objects_told;
}
