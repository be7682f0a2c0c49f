-- The audit rows that parts encode, and those that a drive begins with.
use Rattle.std.proofs.Common.{◌≡◌, ℕ, ◌-◌, ◌<◌, ◌≤◌, ◌==◌, cond, List, [], ◌∷◌, ◌++◌, append-nil, append_assoc, map, Option, Some, None, refl, sym, ap, subst, ◌∙◌, arith}
use Rattle.std.specs.List.{AllByRecursion}
use Rattle.s4_types.specs.History.{Base}
use Rattle.s4_types.specs.AuditKinds.{number_of_kind}
use Rattle.s4_types.specs.declared.audit_rows.AuditKind.{AuditKind}
use Rattle.s4_types.specs.declared.audit_rows.AuditKind.TheVariants as kind
use Rattle.s4_types.specs.declared.audit_rows.AuditRow.{AuditRow}
use Rattle.std.proofs.lemmas.List.{map-append}
use Rattle.lemmas.proofs.List.{all_weaker, all_append}
use Rattle.s4_model.specs.Numbers.{floor_of}
use Rattle.s4_model.specs.State.{state_of}
use Rattle.s4_model.specs.Audit.{rows_from, audit_of, IsAuditRow, IsRowBetween, MomentsAscend}
use Rattle.s4_model.specs.Promise.{beginning}
use Rattle.audit_log.proofs.Rows.{all_from, ascend_push}
use Rattle.image_parts.specs.Audit.{IsAuditPart}
use Rattle.image_parts.specs.Image.{Image}
use Rattle.image_parts.specs.declared.audit.AuditPart.{AuditPart}
use Rattle.verifier.specs.Audit.{audit_part, AuditStands}
use Rattle.verifier.specs.private.AuditRows.{IsLater}

-- ---- one row for each part

kind_at : ℕ → AuditKind
kind_at n =
    cond (n == 1) kind.Create (cond (n == 2) kind.Delete (cond (n == 4) kind.Write (cond (n == 6) kind.Truncate
    (cond (n == 8) kind.SetAttr (cond (n == 9) kind.SetWindow (cond (n == 10) kind.Flush kind.FlushO))))))

kind_back : (k : AuditKind) → kind_at (number_of_kind k) ≡ k
unfolding kind_at
kind_back kind.Create = refl
kind_back kind.Delete = refl
kind_back kind.Write = refl
kind_back kind.Truncate = refl
kind_back kind.SetAttr = refl
kind_back kind.SetWindow = refl
kind_back kind.Flush = refl
kind_back kind.FlushO = refl

abbrev row_by : AuditPart → AuditRow
row_by part = record { moment = part.moment; kind = kind_at part.kind; object = part.object; first = part.first; second = part.second }

row_back : (row : AuditRow) → row_by (audit_part row) ≡ row
row_back row = ap (λ (k : AuditKind). record { moment = row.moment; kind = k; object = row.object; first = row.first; second = row.second }) (kind_back row.kind)

rows_back : (rows : List AuditRow) → map row_by (map audit_part rows) ≡ rows
rows_back [] = refl
rows_back (row ∷ rows) = ap (λ (r : AuditRow). r ∷ map row_by (map audit_part rows)) (row_back row) ∙ ap (λ (rest : List AuditRow). row ∷ rest) (rows_back rows)

-- parts encode one list of rows
pub one_audit : (rows others : List AuditRow) → map audit_part rows ≡ map audit_part others → rows ≡ others
one_audit rows others same = sym (rows_back rows) ∙ ap (map row_by) same ∙ rows_back others

-- parts of rows whose numbers are in their ranges are so
pub all_mapped : (rows : List AuditRow) → AllByRecursion (λ row. IsAuditPart (audit_part row)) rows → AllByRecursion IsAuditPart (map audit_part rows)
all_mapped [] fit = tt
all_mapped (row ∷ rows) fit = (fit.0, all_mapped rows fit.1)

-- ---- rows read one by one

-- Parts encode rows of which the first are these: the next one is that of the next part.
record Seam (done rows : List AuditRow) (part : AuditPart) : Type 0 where
  tail : List AuditRow
  whole : rows ≡ done ++ row_by part ∷ tail
  spelled : part ≡ audit_part (row_by part)

seam : (done : List AuditRow) (part : AuditPart) (rest : List AuditPart) (rows : List AuditRow) → map audit_part done ++ part ∷ rest ≡ map audit_part rows → Seam done rows part
seam [] part rest [] e = absurd cc
seam [] part rest (row ∷ rows) e =
    let head : part ≡ audit_part row = cc in
    let is : row_by part ≡ row = ap row_by head ∙ row_back row in
    record { tail = rows; whole = ap (λ (r : AuditRow). r ∷ rows) (sym is); spelled = head ∙ ap audit_part (sym is) }
seam (d ∷ done) part rest [] e = absurd cc
seam (d ∷ done) part rest (row ∷ rows) e =
    let head : audit_part d ≡ audit_part row = cc in
    let behind : map audit_part done ++ part ∷ rest ≡ map audit_part rows = cc in
    let is : d ≡ row = sym (row_back d) ∙ ap row_by head ∙ row_back row in
    let s : Seam done rows part = seam done part rest rows behind in
    record { tail = s.tail; whole = ap (λ (r : AuditRow). r ∷ rows) (sym is) ∙ ap (λ (all : List AuditRow). d ∷ all) s.whole; spelled = s.spelled }

at_seam : (P : AuditRow → Type 0) (front : List AuditRow) (row : AuditRow) (tail : List AuditRow) → AllByRecursion P (front ++ row ∷ tail) → P row
at_seam P [] row tail all = all.0
at_seam P (r ∷ front) row tail all = at_seam P front row tail all.1

before_seam : (front : List AuditRow) (row : AuditRow) (tail : List AuditRow) → MomentsAscend (front ++ row ∷ tail) → AllByRecursion (λ other. other.moment < row.moment) front
before_seam [] row tail h = tt
before_seam (r ∷ front) row tail h = (at_seam (λ later. r.moment < later.moment) front row tail h.0, before_seam front row tail h.1)

-- the last of the rows so far is of this moment, if there is one
abbrev pub EndsWith : Option ℕ → List AuditRow → Type 0
EndsWith None done = done ≡ []
EndsWith (Some m) done = (front : List AuditRow) × (row : AuditRow) × (done ≡ front ++ row ∷ []) × (row.moment ≡ m)

-- The rows of the first parts were read and keep the rules, and these parts are left.
pub record AuditRead (image : Image) (last : Option ℕ) (done : List AuditRow) (left : List AuditPart) : Type 0 where
  pub split : image.audit ≡ map audit_part done ++ left
  pub each : AllByRecursion (IsRowBetween image.floor image.clock image.next) done
  pub ascend : MomentsAscend done
  pub end : EndsWith last done

-- what an audit that keeps the rules says of the next part
record NextStands (image : Image) (last : Option ℕ) (part : AuditPart) : Type 0 where
  row : AuditRow
  spelled : part ≡ audit_part row
  between : IsRowBetween image.floor image.clock image.next row
  later : IsLater last row.moment

later_than : (last : Option ℕ) (done : List AuditRow) (m : ℕ) → EndsWith last done → AllByRecursion (λ other. other.moment < m) done → IsLater last m
later_than None done m end all = tt
later_than (Some l) done m end all =
    subst (λ (n : ℕ). n < m) end.3 (at_seam (λ other. other.moment < m) end.0 end.1 [] (subst (AllByRecursion (λ other. other.moment < m)) end.2 all))

next_stands : (image : Image) (last : Option ℕ) (done : List AuditRow) (part : AuditPart) (rest left : List AuditPart) → AuditRead image last done left → left ≡ part ∷ rest → AuditStands image → NextStands image last part
next_stands image last done part rest left read is stands =
    let e : map audit_part done ++ part ∷ rest ≡ map audit_part stands.rows = sym (read.split ∙ ap (λ (l : List AuditPart). map audit_part done ++ l) is) ∙ stands.spelled in
    let s : Seam done stands.rows part = seam done part rest stands.rows e in
    let each = subst (AllByRecursion (IsRowBetween image.floor image.clock image.next)) s.whole stands.kept.each in
    let ascend : MomentsAscend (done ++ row_by part ∷ s.tail) = subst MomentsAscend s.whole stands.kept.ascend in
    record {
      row = row_by part;
      spelled = s.spelled;
      between = at_seam (IsRowBetween image.floor image.clock image.next) done (row_by part) s.tail each;
      later = later_than last done (row_by part).moment read.end (before_seam done (row_by part) s.tail ascend);
    }

-- a part that encodes no row, or one that breaks a rule, is in no audit that keeps them
pub no_row : (image : Image) (last : Option ℕ) (done : List AuditRow) (part : AuditPart) (rest left : List AuditPart) → AuditRead image last done left → left ≡ part ∷ rest → ((row : AuditRow) → part ≡ audit_part row → ⊥) → AuditStands image → ⊥
no_row image last done part rest left read is none stands = let next = next_stands image last done part rest left read is stands in none next.row next.spelled

pub bad_row : (image : Image) (last : Option ℕ) (done : List AuditRow) (part : AuditPart) (rest left : List AuditPart) (row : AuditRow) → AuditRead image last done left → left ≡ part ∷ rest → part ≡ audit_part row
    → (IsLater last row.moment → IsRowBetween image.floor image.clock image.next row → ⊥) → AuditStands image → ⊥
bad_row image last done part rest left row read is spelled breaks stands =
    let next = next_stands image last done part rest left read is stands in
    let same : next.row ≡ row = sym (row_back next.row) ∙ ap row_by (sym next.spelled ∙ spelled) ∙ row_back row in
    breaks (subst (λ (r : AuditRow). IsLater last r.moment) same next.later) (subst (IsRowBetween image.floor image.clock image.next) same next.between)

ends_by : (front : List AuditRow) (row : AuditRow) (m : ℕ) → MomentsAscend (front ++ row ∷ []) → row.moment < m → AllByRecursion (λ other. other.moment < m) (front ++ row ∷ [])
ends_by [] row m h lt = (lt, tt)
ends_by (r ∷ front) row m h lt = (let early = at_seam (λ later. r.moment < later.moment) front row [] h.0 in omega (arith, early, lt), ends_by front row m h.1 lt)

-- what is later than the last row is later than all
pub later_than_all : (last : Option ℕ) (done : List AuditRow) (m : ℕ) → EndsWith last done → MomentsAscend done → IsLater last m → AllByRecursion (λ other. other.moment < m) done
later_than_all None done m end ascend later = subst (AllByRecursion (λ other. other.moment < m)) (sym end) tt
later_than_all (Some l) done m end ascend later =
    subst (AllByRecursion (λ other. other.moment < m)) (sym end.2) (ends_by end.0 end.1 m (subst MomentsAscend end.2 ascend) (subst (λ (n : ℕ). n < m) (sym end.3) later))

-- one row more
pub row_read : (image : Image) (last : Option ℕ) (done now : List AuditRow) (part : AuditPart) (rest left : List AuditPart) (row : AuditRow) → AuditRead image last done left → left ≡ part ∷ rest → part ≡ audit_part row
    → IsLater last row.moment → IsRowBetween image.floor image.clock image.next row → now ≡ done ++ row ∷ [] → AuditRead image (Some row.moment) now rest
row_read image last done now part rest left row read is spelled later between pushed =
    let N : List AuditRow → Type 0 = λ l. AuditRead image (Some row.moment) l rest in
    subst N (sym pushed) (record {
      split = read.split ∙ ap (λ (l : List AuditPart). map audit_part done ++ l) (is ∙ ap (λ (p : AuditPart). p ∷ rest) spelled)
          ∙ sym (append_assoc (map audit_part done) (audit_part row ∷ []) rest) ∙ ap (λ (l : List AuditPart). l ++ rest) (sym (map-append audit_part done (row ∷ [])));
      each = all_append (IsRowBetween image.floor image.clock image.next) done (row ∷ []) read.each (between, tt);
      ascend = ascend_push done row read.ascend (later_than_all last done row.moment read.end read.ascend later);
      end = (done, row, refl, refl);
    })

pub none_read : (image : Image) (last : Option ℕ) (done : List AuditRow) (left : List AuditPart) → last ≡ None → done ≡ [] → left ≡ image.audit → AuditRead image last done left
none_read image last done left no_last none all =
    subst (λ (l : Option ℕ). AuditRead image l done left) (sym no_last) (subst (λ (d : List AuditRow). AuditRead image None d left) (sym none)
    (record { split = sym all; each = tt; ascend = tt; end = refl }))

-- all rows were read
pub all_read : (image : Image) (last : Option ℕ) (done : List AuditRow) (left : List AuditPart) → AuditRead image last done left → left ≡ [] → image.audit ≡ map audit_part done
all_read image last done left read none = read.split ∙ ap (λ (l : List AuditPart). map audit_part done ++ l) none ∙ append-nil (map audit_part done)

pub audit_stands : (image : Image) (last : Option ℕ) (done : List AuditRow) (left : List AuditPart) → AuditRead image last done left → left ≡ [] → AuditStands image
audit_stands image last done left read none = record { rows = done; spelled = all_read image last done left read none; kept = record { each = read.each; ascend = read.ascend } }

-- ---- what is opened

-- such rows are ones that changes can have, by the clock
pub are_rows : (floor clock next : ℕ) (rows : List AuditRow) → AllByRecursion (IsRowBetween floor clock next) rows → AllByRecursion (IsAuditRow next) rows
are_rows floor clock next rows = all_weaker (IsRowBetween floor clock next) (IsAuditRow next) rows (λ row between. between.2)

pub are_accepted : (floor clock next : ℕ) (rows : List AuditRow) → AllByRecursion (IsRowBetween floor clock next) rows → AllByRecursion (λ row. row.moment ≤ clock) rows
are_accepted floor clock next rows = all_weaker (IsRowBetween floor clock next) (λ row. row.moment ≤ clock) rows (λ row between. between.1)

-- ---- what a drive begins with

floor_begun : (base : Base) → base.clock - base.window ≤ base.floor → floor_of (beginning base) ≡ base.floor
floor_begun base reach = omega arith

-- the audit of a history that has just begun with the rows of an image is these rows
pub begun_audit : (parts : Image) (base : Base) → AuditStands parts → parts.audit ≡ map audit_part base.audit → base.floor ≡ parts.floor → base.clock - base.window ≤ base.floor → audit_of (state_of (beginning base)) ≡ base.audit
begun_audit parts base stands told floor reach =
    let same : stands.rows ≡ base.audit = one_audit stands.rows base.audit (sym stands.spelled ∙ told) in
    let from : AllByRecursion (λ row. parts.floor ≤ row.moment) stands.rows =
    all_weaker (IsRowBetween parts.floor parts.clock parts.next) (λ row. parts.floor ≤ row.moment) stands.rows (λ row between. between.0) stands.kept.each in
    let late : AllByRecursion (λ row. base.floor ≤ row.moment) base.audit =
    subst (λ (f : ℕ). AllByRecursion (λ row. f ≤ row.moment) base.audit) (sym floor) (subst (AllByRecursion (λ row. parts.floor ≤ row.moment)) same from) in
    ap (λ (f : ℕ). rows_from f (base.audit ++ [])) (floor_begun base reach) ∙ ap (rows_from base.floor) (append-nil base.audit) ∙ all_from base.floor base.audit late
