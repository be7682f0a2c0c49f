-- What changes make of contents, whatever the moments.
use Rattle.std.proofs.Common.{◌≡◌, ◌∙◌, ◌+◌, ◌-◌, ◌<◌, ◌≤◌, ℕ, zero, suc, Bool, true, false, List, [], ◌∷◌, ◌++◌, length, take, drop, get_or, Option, None, Some, refl, sym, ap, arith}
use Rattle.std.proofs.lemmas.List.{drop_more, take-append-drop, take_more}
use Rattle.s4_types.specs.declared.changes.Change.{Change}
use Rattle.s4_types.specs.declared.changes.Change.TheVariants.{Create, Delete, Write, Truncate, SetAttr, SetWindow, Flush, FlushO}
use Rattle.s4_types.specs.declared.versions.Version.{Version}
use Rattle.s4_types.specs.declared.versions.Version.TheVariants.{Absent, Live}
use Rattle.s4_model.specs.Effect.{effect, resized, written}
use Rattle.s4_model.specs.Step.{part}
use Rattle.history_restore.specs.declared.plans.Changes.{Changes}
use Rattle.history_restore.specs.declared.plans.Plan.TheVariants.{Remake, Change as OfChanges}
use Rattle.history_view.specs.Contents.{attribute_of, content_of as bytes_of}
use Rattle.block_runs.specs.declared.running.Run.{Run}
use Rattle.history_restore.specs.Content.{Content, content_of, holding}
use Rattle.history_restore.specs.Plans.{AreWithin, attribute_by, changed_by, cut_by, runs_by, runs_changes, turned}

-- what a change makes of a content
abbrev pub content_by : Change → Option Content → Option Content
content_by (Create object attribute) content = holding [] attribute
content_by (Delete object) content = None
content_by (Write object offset bytes) None = None
content_by (Write object offset bytes) (Some content) = holding (written offset bytes content.bytes) content.attribute
content_by (Truncate object size) None = None
content_by (Truncate object size) (Some content) = holding (resized size content.bytes) content.attribute
content_by (SetAttr object attribute) None = None
content_by (SetAttr object attribute) (Some content) = holding content.bytes attribute
content_by (SetWindow window) content = content
content_by (Flush first last) content = content
content_by (FlushO object first last) content = content

-- that is what its effect on a version has
pub content_of-effect : (change : Change) (moment : ℕ) (v : Version) → content_of (effect change moment v) ≡ content_by change (content_of v)
content_of-effect (Create object attribute) moment v = refl
content_of-effect (Delete object) moment v = refl
content_of-effect (Write object offset bytes) moment Absent = refl
content_of-effect (Write object offset bytes) moment (Live content attribute created changed) = refl
content_of-effect (Truncate object size) moment Absent = refl
content_of-effect (Truncate object size) moment (Live content attribute created changed) = refl
content_of-effect (SetAttr object new_attribute) moment Absent = refl
content_of-effect (SetAttr object new_attribute) moment (Live content attribute created changed) = refl
content_of-effect (SetWindow window) moment v = refl
content_of-effect (Flush first last) moment v = refl
content_of-effect (FlushO object first last) moment v = refl

-- so it is the same at each moment, and of versions with the same content
pub effects_alike : (change : Change) (m n : ℕ) (v w : Version) → content_of v ≡ content_of w → content_of (effect change m v) ≡ content_of (effect change n w)
effects_alike change m n v w same = content_of-effect change m v ∙ ap (content_by change) same ∙ sym (content_of-effect change n w)

cuts_alike : (cut : Option ℕ) (o m n : ℕ) (v w : Version) → content_of v ≡ content_of w → content_of (cut_by cut o m v) ≡ content_of (cut_by cut o n w)
cuts_alike None o m n v w same = same
cuts_alike (Some size) o m n v w same = effects_alike (Truncate o size) m n v w same

pub runs_alike : (bytes : List ℕ) (rs : List Run) (o m n : ℕ) (v w : Version) → content_of v ≡ content_of w → content_of (runs_by bytes rs o m v) ≡ content_of (runs_by bytes rs o n w)
runs_alike bytes [] o m n v w same = same
runs_alike bytes (r ∷ rs) o m n v w same =
    let put : Change = Write o r.offset (part bytes r.offset (r.end - r.offset)) in
    runs_alike bytes rs o m n (effect put m v) (effect put n w) (effects_alike put m n v w same)

attributes_alike : (attribute : List ℕ) (wanted : Bool) (o m n : ℕ) (v w : Version) → content_of v ≡ content_of w → content_of (attribute_by attribute wanted o m v) ≡ content_of (attribute_by attribute wanted o n w)
attributes_alike attribute true o m n v w same = effects_alike (SetAttr o attribute) m n v w same
attributes_alike attribute false o m n v w same = same

-- nor does an object's number make a difference
cut_any : (cut : Option ℕ) (o p m : ℕ) (v : Version) → cut_by cut o m v ≡ cut_by cut p m v
cut_any None o p m v = refl
cut_any (Some size) o p m Absent = refl
cut_any (Some size) o p m (Live content attribute created changed) = refl

runs_any : (bytes : List ℕ) (rs : List Run) (o p m : ℕ) (v : Version) → runs_by bytes rs o m v ≡ runs_by bytes rs p m v
runs_any bytes [] o p m v = refl
runs_any bytes (r ∷ rs) o p m Absent = runs_any bytes rs o p m Absent
runs_any bytes (r ∷ rs) o p m (Live content attribute created changed) = runs_any bytes rs o p m (Live (written r.offset (part bytes r.offset (r.end - r.offset)) content) attribute created m)

attribute_any : (attribute : List ℕ) (wanted : Bool) (o p m : ℕ) (v : Version) → attribute_by attribute wanted o m v ≡ attribute_by attribute wanted p m v
attribute_any attribute false o p m v = refl
attribute_any attribute true o p m Absent = refl
attribute_any attribute true o p m (Live content old created changed) = refl

any_number : (before : Version) (rs : List Run) (changes : Changes) (o p m : ℕ) (v : Version) → changed_by before rs changes o m v ≡ changed_by before rs changes p m v
any_number before rs changes o p m v =
    attribute_any (attribute_of before) changes.attribute o p m (runs_by (bytes_of before) rs o m (cut_by changes.cut o m v))
    ∙ ap (attribute_by (attribute_of before) changes.attribute p m) (runs_any (bytes_of before) rs o p m (cut_by changes.cut o m v) ∙ ap (runs_by (bytes_of before) rs p m) (cut_any changes.cut o p m v))

-- so what is made anew is the same under each number, whatever was there
pub any_remade : (before : Version) (rs : List Run) (changes : Changes) (o p : ℕ) (v w : Version) → turned before rs (Remake changes) o 0 v ≡ turned before rs (Remake changes) p 0 w
any_remade before rs changes o p v w = any_number before rs changes o p 0 (Live [] (attribute_of before) 0 0)

-- one run more
runs_by_more : (bytes : List ℕ) (rs : List Run) (r : Run) (o m : ℕ) (v : Version) → runs_by bytes (rs ++ r ∷ []) o m v ≡ effect (Write o r.offset (part bytes r.offset (r.end - r.offset))) m (runs_by bytes rs o m v)
runs_by_more bytes [] r o m v = refl
runs_by_more bytes (q ∷ rs) r o m v = runs_by_more bytes rs r o m (effect (Write o q.offset (part bytes q.offset (q.end - q.offset))) m v)

pub run_more : (bytes : List ℕ) (rs : List Run) (r : Run) (o : ℕ) (v middle later : Version) → content_of middle ≡ content_of (runs_by bytes rs o 0 v) → content_of later ≡ content_of (effect (Write o r.offset (part bytes r.offset (r.end - r.offset))) 0 middle)
    → content_of later ≡ content_of (runs_by bytes (rs ++ r ∷ []) o 0 v)
run_more bytes rs r o v middle later first second =
    let put : Change = Write o r.offset (part bytes r.offset (r.end - r.offset)) in
    second ∙ effects_alike put 0 0 middle (runs_by bytes rs o 0 v) first ∙ sym (ap content_of (runs_by_more bytes rs r o 0 v))

-- a version that is cut and gets bytes and its attribute, one after the other
pub changed_whole : (bytes attribute : List ℕ) (cut : Option ℕ) (rs : List Run) (wanted : Bool) (o : ℕ) (v middle later : Version) → content_of middle ≡ content_of (cut_by cut o 0 v) → content_of later ≡ content_of (runs_by bytes rs o 0 middle)
    → content_of (attribute_by attribute wanted o 0 later) ≡ content_of (attribute_by attribute wanted o 0 (runs_by bytes rs o 0 (cut_by cut o 0 v)))
changed_whole bytes attribute cut rs wanted o v middle later first second =
    attributes_alike attribute wanted o 0 0 later (runs_by bytes rs o 0 (cut_by cut o 0 v)) (second ∙ runs_alike bytes rs o 0 0 middle (cut_by cut o 0 v) first)

-- an object that is made with an attribute, and then changed, is what is planned
pub remade_whole : (before : Version) (rs : List Run) (changes : Changes) (o : ℕ) (v w : Version) → content_of v ≡ holding [] (attribute_of before) → content_of w ≡ content_of (turned before rs (OfChanges changes) o 0 v)
    → content_of w ≡ content_of (turned before rs (Remake changes) 0 0 Absent)
remade_whole before rs changes o v w made done =
    let new : Version = Live [] (attribute_of before) 0 0 in
    done
    ∙ attributes_alike (attribute_of before) changes.attribute o 0 0 (runs_by (bytes_of before) rs o 0 (cut_by changes.cut o 0 v)) (runs_by (bytes_of before) rs o 0 (cut_by changes.cut o 0 new))
    (runs_alike (bytes_of before) rs o 0 0 (cut_by changes.cut o 0 v) (cut_by changes.cut o 0 new) (cuts_alike changes.cut o 0 0 v new made))
    ∙ ap content_of (any_number before rs changes o 0 0 new)

-- ---- the changes of runs

runs_changes_append : (o : ℕ) (bytes : List ℕ) (rs qs : List Run) → runs_changes o bytes (rs ++ qs) ≡ runs_changes o bytes rs ++ runs_changes o bytes qs
runs_changes_append o bytes [] qs = refl
runs_changes_append o bytes (r ∷ rs) qs = ap (λ (cs : List Change). Write o r.offset (part bytes r.offset (r.end - r.offset)) ∷ cs) (runs_changes_append o bytes rs qs)

pub runs_changes_more : (o : ℕ) (bytes : List ℕ) (rs : List Run) (i : ℕ) (d : Run) → i < length rs → runs_changes o bytes (take (i + 1) rs) ≡ runs_changes o bytes (take i rs) ++ runs_changes o bytes (get_or rs i d ∷ [])
runs_changes_more o bytes rs i d less = ap (runs_changes o bytes) (take_more rs i d less) ∙ runs_changes_append o bytes (take i rs) (get_or rs i d ∷ [])

-- those in front of a run, its own and the rest
pub runs_changes_split : (o : ℕ) (bytes : List ℕ) (rs : List Run) (i : ℕ) (d : Run) → i < length rs
    → runs_changes o bytes (take i rs) ++ (runs_changes o bytes (get_or rs i d ∷ []) ++ runs_changes o bytes (drop (i + 1) rs)) ≡ runs_changes o bytes rs
runs_changes_split o bytes rs i d less =
    ap (λ (cs : List Change). runs_changes o bytes (take i rs) ++ cs) (sym (runs_changes_append o bytes (get_or rs i d ∷ []) (drop (i + 1) rs)) ∙ ap (runs_changes o bytes) (sym (drop_more rs i d less)))
    ∙ sym (runs_changes_append o bytes (take i rs) (drop i rs)) ∙ ap (runs_changes o bytes) (take-append-drop i rs)

-- each is among the bytes
pub run_within : (bytes : List ℕ) (rs : List Run) (i : ℕ) (d : Run) → AreWithin bytes rs → i < length rs → ((get_or rs i d).offset < (get_or rs i d).end) × ((get_or rs i d).end ≤ length bytes)
run_within bytes [] i d are less = absurd (omega arith)
run_within bytes (r ∷ rs) zero d are less = (are.0, are.1)
run_within bytes (r ∷ rs) (suc i) d are less = run_within bytes rs i d are.2 (omega arith)
