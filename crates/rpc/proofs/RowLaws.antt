-- Rows of an audit are read exactly where the bytes encode them.
use Rattle.std.proofs.Common.{◌≡◌, ◌≢◌, ℕ, zero, suc, ◌+◌, ◌-◌, ◌*◌, ◌^◌, ◌<◌, ◌≤◌, Bool, true, false, cond, eqb, List, [], ◌∷◌, ◌++◌, length, take, get_or, Option, Some, None, Result, Ok, Err, refl, sym, ap, subst, ◌∙◌, append_assoc, append-nil, arith}
use Rattle.std.proofs.lemmas.Bool.{eqb-true}
use Rattle.std.proofs.lemmas.List.{length-append, length-take, take_more}
use Rattle.std.proofs.lemmas.List.Concat.{flat_map-append}
use Rattle.std.specs.Global.{Vec}
use Rattle.std.specs.Int.{w64}
use Rattle.std.specs.List.{AllByRecursion, flat_map}
use Rattle.s4_types.specs.AuditKinds.{number_of_kind}
use Rattle.s4_types.specs.declared.audit_rows.AuditKind.{AuditKind}
use Rattle.s4_types.specs.declared.audit_rows.AuditKind.TheVariants as kind
use Rattle.s4_types.specs.declared.audit_rows.AuditRow.{AuditRow}
use Rattle.rpc.specs.Spelling.{long, row_spelling, RowNumbers}
use Rattle.rpc.specs.declared.unread.Unread.{Unread}
use Rattle.rpc.specs.declared.unread.Unread.TheVariants.{Memory, Misspelled}
use Rattle.rpc.specs.private.Reading.{◌>>=◌, Fails, wire_number_at, ended_at, kind_of_code, kind_at, row_made, behind_kind, row_at, rows_at, with_front}
use Rattle.rpc.specs.private.Room.{HasRoom, Appended}
use Rattle.rpc.proofs.RoomLaws.{Appended-then}
use Rattle.lemmas.proofs.Bytes.{IsBytes}
use Rattle.rpc.proofs.Exact.{bytes_behind, bind_some, Took, IsField, long_field}
use Rattle.rpc.proofs.RequestLaws.{kind_or_other}

-- ---- lengths

row_length : (row : AuditRow) → length (row_spelling row) ≡ 33
row_length row = refl

pub rows_length : (rows : List AuditRow) → length (flat_map row_spelling rows) ≡ 33 * length rows
rows_length [] = refl
rows_length (row ∷ rows) = omega (arith, length-append (row_spelling row) (flat_map row_spelling rows), rows_length rows)

-- ---- the kind

named : (code number : ℕ) (named_by k : AuditKind) → code ≡ number → number_of_kind named_by ≡ number → Some named_by ≡ Some k → code ≡ number_of_kind k
named code number named_by k is has e = let same : named_by ≡ k = cc in is ∙ sym has ∙ ap number_of_kind same

kind_found : (code : ℕ) (k : AuditKind) → kind_of_code code ≡ Some k → code ≡ number_of_kind k
unfolding kind_of_code
kind_found code k e =
    kind_or_other _ _ _ k e (λ t d. named code 1 kind.Create k (eqb-true code 1 t) refl d) (λ e.
    kind_or_other _ _ _ k e (λ t d. named code 2 kind.Delete k (eqb-true code 2 t) refl d) (λ e.
    kind_or_other _ _ _ k e (λ t d. named code 4 kind.Write k (eqb-true code 4 t) refl d) (λ e.
    kind_or_other _ _ _ k e (λ t d. named code 6 kind.Truncate k (eqb-true code 6 t) refl d) (λ e.
    kind_or_other _ _ _ k e (λ t d. named code 8 kind.SetAttr k (eqb-true code 8 t) refl d) (λ e.
    kind_or_other _ _ _ k e (λ t d. named code 9 kind.SetWindow k (eqb-true code 9 t) refl d) (λ e.
    kind_or_other _ _ _ k e (λ t d. named code 10 kind.Flush k (eqb-true code 10 t) refl d) (λ e.
    kind_or_other _ _ _ k e (λ t d. named code 11 kind.FlushO k (eqb-true code 11 t) refl d) (λ e. absurd cc))))))))

kind_again : (k : AuditKind) → kind_of_code (number_of_kind k) ≡ Some k
unfolding kind_of_code
kind_again kind.Create = refl
kind_again kind.Delete = refl
kind_again kind.Write = refl
kind_again kind.Truncate = refl
kind_again kind.SetAttr = refl
kind_again kind.SetWindow = refl
kind_again kind.Flush = refl
kind_again kind.FlushO = refl

abbrev kind_spelling : AuditKind → List ℕ
kind_spelling k = number_of_kind k ∷ []

kind_takes : (bytes : List ℕ) (x : AuditKind × List ℕ) → IsBytes bytes → kind_at bytes ≡ Some x → Took kind_spelling (λ _. Unit {0}) bytes x
unfolding kind_at
kind_takes [] x h e = absurd cc
kind_takes (code ∷ bytes) x h e =
    let b = bind_some (kind_of_code code) (λ found. Some (found, bytes)) x e in
    let same : (b.0, bytes) ≡ x = cc in
    subst (Took kind_spelling (λ _. Unit {0}) (code ∷ bytes)) same (record { whole = ap (λ (n : ℕ). n ∷ bytes) (kind_found code b.0 b.1); rest = bytes_behind code bytes h; fits = tt })

kind_again_at : (k : AuditKind) (rest : List ℕ) → Unit {0} → kind_at (kind_spelling k ++ rest) ≡ Some (k, rest)
unfolding kind_at
kind_again_at k rest u = rw (kind_again k) refl

kind_field : IsField kind_at kind_spelling (λ _. Unit {0})
kind_field = record { takes = kind_takes; again = kind_again_at }

-- ---- one row

behind_found : (moment : ℕ) (k : AuditKind) (bytes : List ℕ) (x : AuditRow × List ℕ) → IsBytes bytes → moment < 2 ^ 64 → behind_kind moment k bytes ≡ Some x
    → (long moment ++ (number_of_kind k ∷ bytes) ≡ row_spelling x.0 ++ x.1) × IsBytes x.1 × RowNumbers x.0
behind_found moment k bytes x h low e =
    let object = bind_some (wire_number_at w64 bytes) (λ object. wire_number_at w64 object.1 >>= λ first. wire_number_at w64 first.1 >>= λ second. Some (row_made moment k object.0 first.0 second.0, second.1)) x e in
    let first = bind_some (wire_number_at w64 object.0.1) (λ first. wire_number_at w64 first.1 >>= λ second. Some (row_made moment k object.0.0 first.0 second.0, second.1)) x object.2 in
    let second = bind_some (wire_number_at w64 first.0.1) (λ second. Some (row_made moment k object.0.0 first.0.0 second.0, second.1)) x first.2 in
    let o = long_field.takes bytes object.0 h object.1 in
    let f = long_field.takes object.0.1 first.0 o.rest first.1 in
    let s = long_field.takes first.0.1 second.0 f.rest second.1 in
    let same : (row_made moment k object.0.0 first.0.0 second.0.0, second.0.1) ≡ x = cc in
    let bytes_are : bytes ≡ long object.0.0 ++ (long first.0.0 ++ (long second.0.0 ++ second.0.1)) = o.whole ∙ ap (λ (b : List ℕ). long object.0.0 ++ b) (f.whole ∙ ap (λ (b : List ℕ). long first.0.0 ++ b) s.whole) in
    subst (λ (y : AuditRow × List ℕ). (long moment ++ (number_of_kind k ∷ bytes) ≡ row_spelling y.0 ++ y.1) × IsBytes y.1 × RowNumbers y.0) same
    (ap (λ (b : List ℕ). long moment ++ (number_of_kind k ∷ b)) bytes_are, s.rest, record { moment = low; object = o.fits; first = f.fits; second = s.fits })

row_takes : (bytes : List ℕ) (x : AuditRow × List ℕ) → IsBytes bytes → row_at bytes ≡ Some x → Took row_spelling RowNumbers bytes x
unfolding row_at
row_takes bytes x h e =
    let moment = bind_some (wire_number_at w64 bytes) (λ moment. kind_at moment.1 >>= λ found. behind_kind moment.0 found.0 found.1) x e in
    let found = bind_some (kind_at moment.0.1) (λ found. behind_kind moment.0.0 found.0 found.1) x moment.2 in
    let m = long_field.takes bytes moment.0 h moment.1 in
    let k = kind_field.takes moment.0.1 found.0 m.rest found.1 in
    let b = behind_found moment.0.0 found.0.0 found.0.1 x k.rest m.fits found.2 in
    record { whole = m.whole ∙ ap (λ (rest : List ℕ). long moment.0.0 ++ rest) k.whole ∙ b.0; rest = b.1; fits = b.2 }

behind_again : (row : AuditRow) (rest : List ℕ) → RowNumbers row → behind_kind row.moment row.kind (long row.object ++ (long row.first ++ (long row.second ++ rest))) ≡ Some (row, rest)
behind_again row rest numbers =
    ap (λ (o : Option (ℕ × List ℕ)). o >>= λ object. wire_number_at w64 object.1 >>= λ first. wire_number_at w64 first.1 >>= λ second. Some (row_made row.moment row.kind object.0 first.0 second.0, second.1))
    (long_field.again row.object (long row.first ++ (long row.second ++ rest)) numbers.object)
    ∙ ap (λ (o : Option (ℕ × List ℕ)). o >>= λ first. wire_number_at w64 first.1 >>= λ second. Some (row_made row.moment row.kind row.object first.0 second.0, second.1))
    (long_field.again row.first (long row.second ++ rest) numbers.first)
    ∙ ap (λ (o : Option (ℕ × List ℕ)). o >>= λ second. Some (row_made row.moment row.kind row.object row.first second.0, second.1)) (long_field.again row.second rest numbers.second)

-- the bytes of a row, each field in front of what comes after it
regrouped : (row : AuditRow) (rest : List ℕ) → row_spelling row ++ rest ≡ long row.moment ++ (number_of_kind row.kind ∷ (long row.object ++ (long row.first ++ (long row.second ++ rest))))
regrouped row rest =
    append_assoc (long row.moment) (number_of_kind row.kind ∷ (long row.object ++ (long row.first ++ long row.second))) rest
    ∙ ap (λ (b : List ℕ). long row.moment ++ (number_of_kind row.kind ∷ b))
    (append_assoc (long row.object) (long row.first ++ long row.second) rest ∙ ap (λ (b : List ℕ). long row.object ++ b) (append_assoc (long row.first) (long row.second) rest))

row_again : (row : AuditRow) (rest : List ℕ) → RowNumbers row → row_at (row_spelling row ++ rest) ≡ Some (row, rest)
unfolding row_at
row_again row rest numbers =
    ap row_at (regrouped row rest)
    ∙ ap (λ (o : Option (ℕ × List ℕ)). o >>= λ moment. kind_at moment.1 >>= λ found. behind_kind moment.0 found.0 found.1)
    (long_field.again row.moment (number_of_kind row.kind ∷ (long row.object ++ (long row.first ++ (long row.second ++ rest)))) numbers.moment)
    ∙ ap (λ (o : Option (AuditKind × List ℕ)). o >>= λ found. behind_kind row.moment found.0 found.1) (kind_field.again row.kind (long row.object ++ (long row.first ++ (long row.second ++ rest))) tt)
    ∙ behind_again row rest numbers

-- ---- rows to the end

-- the bytes encode these rows, at most this many
pub record SpellsRows (most : ℕ) (bytes : List ℕ) (rows : List AuditRow) : Type 0 where
  pub few : length rows ≤ most
  pub numbers : AllByRecursion RowNumbers rows
  pub whole : bytes ≡ flat_map row_spelling rows

pub rows_found : (most : ℕ) (bytes : List ℕ) (rows : List AuditRow) → IsBytes bytes → rows_at most bytes ≡ Some rows → SpellsRows most bytes rows
unfolding rows_at
rows_found most [] rows h e = let same : [] ≡ rows = cc in subst (SpellsRows most []) same (record { few = omega arith; numbers = tt; whole = refl })
rows_found zero (b ∷ bytes) rows h e = absurd cc
rows_found (suc most) (b ∷ bytes) rows h e =
    let one = bind_some (row_at (b ∷ bytes)) (λ row. rows_at most row.1 >>= λ rows. Some (row.0 ∷ rows)) rows e in
    let more = bind_some (rows_at most one.0.1) (λ rows. Some (one.0.0 ∷ rows)) rows one.2 in
    let t = row_takes (b ∷ bytes) one.0 h one.1 in
    let s = rows_found most one.0.1 more.0 t.rest more.1 in
    let same : one.0.0 ∷ more.0 ≡ rows = cc in
    let few : length more.0 ≤ most = s.few in
    subst (SpellsRows (suc most) (b ∷ bytes)) same (record { few = omega arith; numbers = (t.fits, s.numbers); whole = t.whole ∙ ap (λ (rest : List ℕ). row_spelling one.0.0 ++ rest) s.whole })

-- a row is some bytes, so that the next step looks at it
row_first : (most : ℕ) (bytes : List ℕ) (row : AuditRow) (behind : List ℕ) → row_at bytes ≡ Some (row, behind) → rows_at (suc most) bytes ≡ (rows_at most behind >>= λ rows. Some (row ∷ rows))
unfolding rows_at row_at
row_first most [] row behind e = absurd cc
row_first most (b ∷ bytes) row behind e = ap (λ (o : Option (AuditRow × List ℕ)). o >>= λ row. rows_at most row.1 >>= λ rows. Some (row.0 ∷ rows)) e

pub rows_again : (most : ℕ) (rows : List AuditRow) → length rows ≤ most → AllByRecursion RowNumbers rows → rows_at most (flat_map row_spelling rows) ≡ Some rows
unfolding rows_at
rows_again most [] few numbers = refl
rows_again zero (row ∷ rows) few numbers = absurd (omega (arith, few))
rows_again (suc most) (row ∷ rows) few numbers =
    row_first most (flat_map row_spelling (row ∷ rows)) row (flat_map row_spelling rows) (row_again row (flat_map row_spelling rows) numbers.0)
    ∙ ap (λ (o : Option (List AuditRow)). o >>= λ rows. Some (row ∷ rows)) (rows_again most rows (omega (arith, few)) numbers.1)

-- ---- the loop that reads them

front_grows : (front : List AuditRow) (row : AuditRow) (read : Option (List AuditRow)) → with_front front (read >>= λ rows. Some (row ∷ rows)) ≡ with_front (front ++ row ∷ []) read
front_grows front row None = refl
front_grows front row (Some rows) = ap (λ (all : List AuditRow). Some all) (sym (append_assoc front (row ∷ []) rows))

none_before : (read : Option (List AuditRow)) → with_front [] read ≡ read
none_before None = refl
none_before (Some rows) = refl

-- none was read yet
pub rows_begin : (front : List AuditRow) (most : ℕ) (bytes : List ℕ) → front ≡ [] → with_front front (rows_at (most - 0) bytes) ≡ rows_at most bytes
rows_begin front most bytes none =
    let all : most - 0 ≡ most = omega arith in
    ap (λ (n : ℕ). with_front front (rows_at n bytes)) all ∙ ap (λ (rows : List AuditRow). with_front rows (rows_at most bytes)) none ∙ none_before (rows_at most bytes)

no_bytes : (rest : List ℕ) → true ≡ eqb (length rest) 0 → rest ≡ []
no_bytes [] e = refl
no_bytes (b ∷ rest) e = absurd (omega (arith, eqb-true (length (b ∷ rest)) 0 (sym e)))

pub some_bytes : (rest : List ℕ) → false ≡ eqb (length rest) 0 → rest ≢ []
some_bytes [] e same = absurd cc
some_bytes (b ∷ rest) e same = absurd cc

-- one more may be read
one_left : (front : List AuditRow) (most i : ℕ) (rest : List ℕ) (all : Option (List AuditRow)) → i < most → with_front front (rows_at (most - i) rest) ≡ all → with_front front (rows_at (suc (most - (i + 1))) rest) ≡ all
one_left front most i rest all lt invariant =
    let left : most - i ≡ suc (most - (i + 1)) = omega (arith, lt) in
    subst (λ (n : ℕ). with_front front (rows_at n rest) ≡ all) left invariant

-- a further row was read
pub rows_go_on : (front : List AuditRow) (most i : ℕ) (rest : List ℕ) (row : AuditRow) (behind : List ℕ) (all : Option (List AuditRow)) → i < most → row_at rest ≡ Some (row, behind) → with_front front (rows_at (most - i) rest) ≡ all
    → with_front (front ++ row ∷ []) (rows_at (most - (i + 1)) behind) ≡ all
rows_go_on front most i rest row behind all lt e invariant =
    let left = most - (i + 1) in
    sym (front_grows front row (rows_at left behind)) ∙ ap (λ (o : Option (List AuditRow)). with_front front o) (sym (row_first left rest row behind e)) ∙ one_left front most i rest all lt invariant

nothing_left : (front : List AuditRow) (left : ℕ) (rest : List ℕ) (all : Option (List AuditRow)) → rest ≡ [] → with_front front (rows_at left rest) ≡ all → all ≡ Some front
unfolding rows_at
nothing_left front left rest all nothing invariant = sym invariant ∙ ap (λ (b : List ℕ). with_front front (rows_at left b)) nothing ∙ ap (λ (rows : List AuditRow). Some rows) (append-nil front)

-- there is nothing left
pub rows_end : (front : List AuditRow) (left : ℕ) (rest : List ℕ) (all : Option (List AuditRow)) → true ≡ eqb (length rest) 0 → with_front front (rows_at left rest) ≡ all → all ≡ Some front
rows_end front left rest all e invariant = nothing_left front left rest all (no_bytes rest e) invariant

no_row : (front : List AuditRow) (left : ℕ) (rest : List ℕ) (all : Option (List AuditRow)) → rest ≢ [] → row_at rest ≡ None → with_front front (rows_at (suc left) rest) ≡ all → all ≡ None
unfolding rows_at
no_row front left [] all some e invariant = absurd (some refl)
no_row front left (b ∷ rest) all some e invariant = sym invariant ∙ ap (λ (o : Option (AuditRow × List ℕ)). with_front front (o >>= λ row. rows_at left row.1 >>= λ rows. Some (row.0 ∷ rows))) e

-- the next one isn't read
pub rows_fail : (u : Unread) (front : List AuditRow) (most i : ℕ) (rest : List ℕ) (all : Option (List AuditRow)) → i < most → rest ≢ [] → Fails u (row_at rest) → with_front front (rows_at (most - i) rest) ≡ all → Fails u all
rows_fail Memory front most i rest all lt some fails invariant = tt
rows_fail Misspelled front most i rest all lt some fails invariant = no_row front (most - (i + 1)) rest all some fails (one_left front most i rest all lt invariant)

none_left : (front : List AuditRow) (most i : ℕ) (rest : List ℕ) (all : Option (List AuditRow)) → most ≤ i → with_front front (rows_at (most - i) rest) ≡ all → with_front front (rows_at 0 rest) ≡ all
none_left front most i rest all le invariant =
    let left : most - i ≡ 0 = omega (arith, le) in
    subst (λ (n : ℕ). with_front front (rows_at n rest) ≡ all) left invariant

over : (front : List AuditRow) (rest : List ℕ) (all : Option (List AuditRow)) → ended_at rest ≡ None → with_front front (rows_at 0 rest) ≡ all → all ≡ None
unfolding rows_at ended_at
over front [] all e invariant = absurd cc
over front (b ∷ rest) all e invariant = sym invariant

-- there are more than may be
pub rows_over : (u : Unread) (front : List AuditRow) (most i : ℕ) (rest : List ℕ) (all : Option (List AuditRow)) → most ≤ i → Fails u (ended_at rest) → with_front front (rows_at (most - i) rest) ≡ all → Fails u all
rows_over Memory front most i rest all le fails invariant = tt
rows_over Misspelled front most i rest all le fails invariant = over front rest all fails (none_left front most i rest all le invariant)

-- as many were read as may be, and nothing is left
pub rows_full : (front : List AuditRow) (most i : ℕ) (rest : List ℕ) (all : Option (List AuditRow)) (u : Unit {0}) → ended_at rest ≡ Some u → with_front front (rows_at (most - i) rest) ≡ all → all ≡ Some front
unfolding ended_at
rows_full front most i [] all u e invariant = nothing_left front (most - i) [] all refl invariant
rows_full front most i (b ∷ rest) all u e invariant = absurd cc

-- ---- the loop that writes them

-- there is room for the next one
pub row_room : (old out : Vec ℕ) (rows : List AuditRow) (i : ℕ) → HasRoom old (length (flat_map row_spelling rows)) → Appended old out (flat_map row_spelling (take i rows)) → i < length rows → HasRoom out 33
row_room old out rows i room so_far lt =
    let all = rows_length rows in
    let front = rows_length (take i rows) in
    omega (arith, room, so_far.len, so_far.capacity, all, front, length-take i rows, lt)

-- it is written after those before it
pub rows_more : (old out later : Vec ℕ) (rows : List AuditRow) (i : ℕ) (d : AuditRow) → i < length rows → Appended old out (flat_map row_spelling (take i rows)) → Appended out later (row_spelling (get_or rows i d))
    → Appended old later (flat_map row_spelling (take (i + 1) rows))
rows_more old out later rows i d lt so_far more =
    let row : AuditRow = get_or rows i d in
    let whole : flat_map row_spelling (take (i + 1) rows) ≡ flat_map row_spelling (take i rows) ++ row_spelling row =
    ap (λ (all : List AuditRow). flat_map row_spelling all) (take_more rows i d lt)
    ∙ flat_map-append row_spelling (take i rows) (row ∷ [])
    ∙ ap (λ (end : List ℕ). flat_map row_spelling (take i rows) ++ end) (append-nil (row_spelling row)) in
    subst (Appended old later) (sym whole) (Appended-then old out later (flat_map row_spelling (take i rows)) (row_spelling row) so_far more)

numbers_end : (rows : List AuditRow) (row : AuditRow) → AllByRecursion RowNumbers rows → RowNumbers row → AllByRecursion RowNumbers (rows ++ row ∷ [])
numbers_end [] row all one = (one, tt)
numbers_end (other ∷ rows) row all one = (all.0, numbers_end rows row all.1 one)

pub numbers_more : (rows : List AuditRow) (i : ℕ) (d : AuditRow) → i < length rows → AllByRecursion RowNumbers (take i rows) → RowNumbers (get_or rows i d) → AllByRecursion RowNumbers (take (i + 1) rows)
numbers_more rows i d lt all one = subst (AllByRecursion RowNumbers) (sym (take_more rows i d lt)) (numbers_end (take i rows) (get_or rows i d) all one)
