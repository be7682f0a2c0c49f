-- What is known where no refusal applies.
use Rattle.std.proofs.Common.{◌≡◌, ℕ, zero, suc, ◌+◌, length, ◌<◌, ◌≤◌, ◌==◌, ◌&&◌, Bool, true, false, not, cond, leb, inl, inr, List, [], ◌∷◌, None, Some, refl, ap, sym, ◌∙◌, subst, true≢false, arith, find}
use Rattle.std.proofs.lemmas.Bool.{not-false, and_parts, or_parts, leb-true, leb-false, ltb-false, eqb-true, ne_eqb, cases_lt}
use Rattle.std.specs.List.{AllByRecursion, cons_option}
use Rattle.s4_types.specs.declared.limits.TheConstants.{OBJECT_BYTES, ATTRIBUTE_BYTES}
use Rattle.s4_types.specs.declared.changes.Change.{Change}
use Rattle.s4_types.specs.declared.changes.Change.TheVariants as change
use Rattle.s4_types.specs.declared.requests.Role.{Role}
use Rattle.s4_types.specs.declared.requests.Role.TheVariants.{Client}
use Rattle.s4_types.specs.declared.requests.Request.{Request}
use Rattle.s4_types.specs.declared.requests.Request.TheVariants.{Update, Query, Control}
use Rattle.s4_types.specs.declared.requests.ObjectRequest.TheVariants.{Create, Delete, Write, Append, Truncate, SetAttr}
use Rattle.s4_types.specs.declared.requests.AdminRequest.TheVariants.{SetWindow, Flush, FlushO}
use Rattle.s4_types.specs.declared.versions.Version.TheVariants.{Absent}
use Rattle.s4_model.specs.Effect.{is_change_of}
use Rattle.s4_model.specs.Limits.{Fits}
use Rattle.s4_model.specs.Numbers.{next_by, window_by}
use Rattle.s4_model.specs.State.{State}
use Rattle.s4_model.specs.VersionAt.{version_of}
use Rattle.s4_model.specs.Visible.{span_by}
use Rattle.s4_model.specs.Refusals.{first_refusal, applies, checks, is_absent, is_of_no_object, is_one_span_too_many, present, size_of}
use Rattle.s4_model.specs.Step.{change_of}
use Rattle.s4_model.specs.Sound.{IsOfGiven}

none_found : {X : Type 0} (p : X → Bool) (xs : List X) → find p xs ≡ None → AllByRecursion (λ x. p x ≡ false) xs
none_found p [] e = tt
none_found p (x ∷ xs) e =
    (elim (p x) as (λ b. cond b (Some x) (find p xs) ≡ None → (b ≡ false) × AllByRecursion (λ y. p y ≡ false) xs) [
      | true ↦ λ clash. absurd (cc)
      | false ↦ λ rest. (refl, none_found p xs rest)
    ]) e

-- none of the checks applies
pub none_applies : (s : State) (role : Role) (request : Request) → first_refusal s role request ≡ None → AllByRecursion (λ r. applies s role request r ≡ false) checks
none_applies s role request e = none_found (applies s role request) checks e

-- what holds of the change that is asked for holds of the one that is taken
pub asked_change : (P : Change → Type 0) (asks takes : Change) → Some asks ≡ Some takes → P asks → P takes
asked_change P asks takes e p = let same : asks ≡ takes = cc in subst P same p

-- what is shown below of the changes that are granted
abbrev IsBorn : State → ℕ → Change → Type 0
IsBorn s o c = is_change_of o c ≡ true → o < next_by c s.next

abbrev SpanEnds : State → Change → Type 0
SpanEnds s c = AllByRecursion (λ span. span.last ≤ s.clock) (cons_option (span_by c) [])

abbrev SpanIsOwned : State → Change → Type 0
SpanIsOwned s c = AllByRecursion (IsOfGiven s.next) (cons_option (span_by c) [])

abbrev HidesNothing : Change → Type 0
HidesNothing c = span_by c ≡ None

-- an object that is there has a number that was given
there_is_born : (s : State) (o t : ℕ) → ((x u : ℕ) → s.next ≤ x → version_of s x u ≡ Absent) → is_absent (version_of s o t) ≡ false → o < s.next
there_is_born s o t unborn e = elim (cases_lt o s.next) as (λ _. o < s.next) [
  | inl lt ↦ lt
  | inr ge ↦ absurd (true≢false (sym (ap is_absent (unborn o t ge)) ∙ e))
]

same_number : (a b next : ℕ) → (a == b) ≡ true → a < next → b < next
same_number a b next e lt = subst (λ x. x < next) (eqb-true a b e) lt

-- the check that refuses what is of no object
pub object_is_there : (s : State) (role : Role) (request : Request) → first_refusal s role request ≡ None → is_of_no_object s request ≡ false
object_is_there s role request e = (none_applies s role request e).1.1.1.1.1.1.1.0

-- a change that is granted is of an object whose number is given by then
pub granted_is_born : (s : State) (role : Role) (request : Request) (taken : Change) (o : ℕ) → ((x u : ℕ) → s.next ≤ x → version_of s x u ≡ Absent) → first_refusal s role request ≡ None → change_of s request ≡ Some taken → is_change_of o taken ≡ true → o < next_by taken s.next
granted_is_born s role (Update (Create attribute)) taken o unborn granted asks = asked_change (IsBorn s o) (change.Create s.next attribute) taken asks (λ e. let same : s.next ≡ o = eqb-true s.next o e in omega arith)
granted_is_born s role (Update (Delete object)) taken o unborn granted asks = asked_change (IsBorn s o) (change.Delete object) taken asks (λ e. same_number object o s.next e (there_is_born s object s.clock unborn (object_is_there s role (Update (Delete object)) granted)))
granted_is_born s role (Query question) taken o unborn granted asks = cc
granted_is_born s role (Update (Write object offset bytes)) taken o unborn granted asks = asked_change (IsBorn s o) (change.Write object offset bytes) taken asks (λ e. same_number object o s.next e (there_is_born s object s.clock unborn (object_is_there s role (Update (Write object offset bytes)) granted)))
granted_is_born s role (Update (Append object bytes)) taken o unborn granted asks = asked_change (IsBorn s o) _ taken asks (λ e. same_number object o s.next e (there_is_born s object s.clock unborn (object_is_there s role (Update (Append object bytes)) granted)))
granted_is_born s role (Update (Truncate object size)) taken o unborn granted asks = asked_change (IsBorn s o) (change.Truncate object size) taken asks (λ e. same_number object o s.next e (there_is_born s object s.clock unborn (object_is_there s role (Update (Truncate object size)) granted)))
granted_is_born s role (Update (SetAttr object attribute)) taken o unborn granted asks = asked_change (IsBorn s o) (change.SetAttr object attribute) taken asks (λ e. same_number object o s.next e (there_is_born s object s.clock unborn (object_is_there s role (Update (SetAttr object attribute)) granted)))
granted_is_born s role (Control (SetWindow window)) taken o unborn granted asks = asked_change (IsBorn s o) (change.SetWindow window) taken asks (λ e. absurd (true≢false (sym e)))
granted_is_born s role (Control (Flush first last)) taken o unborn granted asks = asked_change (IsBorn s o) (change.Flush first last) taken asks (λ e. absurd (true≢false (sym e)))
granted_is_born s role (Control (FlushO object first last)) taken o unborn granted asks = asked_change (IsBorn s o) (change.FlushO object first last) taken asks (λ e. absurd (true≢false (sym e)))

abbrev IsOfSomebody : Change → Type 0
IsOfSomebody c = is_change_of 0 c ≡ false

there_is_somebody : (s : State) (object : ℕ) → ((t : ℕ) → version_of s 0 t ≡ Absent) → is_absent (present s object) ≡ false → (object == 0) ≡ false
there_is_somebody s object nobody e = ne_eqb object 0 (λ same. true≢false (sym (ap (λ o. is_absent (present s o)) same ∙ ap is_absent (nobody s.clock)) ∙ e))

-- no change that is granted is of number 0
pub granted_is_of_somebody : (s : State) (role : Role) (request : Request) (taken : Change) → 1 ≤ s.next → ((t : ℕ) → version_of s 0 t ≡ Absent) → first_refusal s role request ≡ None → change_of s request ≡ Some taken → is_change_of 0 taken ≡ false
granted_is_of_somebody s role (Update (Create attribute)) taken low nobody granted asks = asked_change IsOfSomebody (change.Create s.next attribute) taken asks (ne_eqb s.next 0 (λ same. omega arith))
granted_is_of_somebody s role (Update (Delete object)) taken low nobody granted asks = asked_change IsOfSomebody (change.Delete object) taken asks (there_is_somebody s object nobody (object_is_there s role (Update (Delete object)) granted))
granted_is_of_somebody s role (Query question) taken low nobody granted asks = cc
granted_is_of_somebody s role (Update (Write object offset bytes)) taken low nobody granted asks = asked_change IsOfSomebody (change.Write object offset bytes) taken asks (there_is_somebody s object nobody (object_is_there s role (Update (Write object offset bytes)) granted))
granted_is_of_somebody s role (Update (Append object bytes)) taken low nobody granted asks = asked_change IsOfSomebody _ taken asks (there_is_somebody s object nobody (object_is_there s role (Update (Append object bytes)) granted))
granted_is_of_somebody s role (Update (Truncate object size)) taken low nobody granted asks = asked_change IsOfSomebody (change.Truncate object size) taken asks (there_is_somebody s object nobody (object_is_there s role (Update (Truncate object size)) granted))
granted_is_of_somebody s role (Update (SetAttr object attribute)) taken low nobody granted asks = asked_change IsOfSomebody (change.SetAttr object attribute) taken asks (there_is_somebody s object nobody (object_is_there s role (Update (SetAttr object attribute)) granted))
granted_is_of_somebody s role (Control (SetWindow window)) taken low nobody granted asks = asked_change IsOfSomebody (change.SetWindow window) taken asks refl
granted_is_of_somebody s role (Control (Flush first last)) taken low nobody granted asks = asked_change IsOfSomebody (change.Flush first last) taken asks refl
granted_is_of_somebody s role (Control (FlushO object first last)) taken low nobody granted asks = asked_change IsOfSomebody (change.FlushO object first last) taken asks refl

span_end : (first last clock : ℕ) → not (leb first last && leb last clock) ≡ false → last ≤ clock
span_end first last clock e = leb-true last clock (and_parts (leb first last) (leb last clock) (not-false (leb first last && leb last clock) e)).1

-- a span that is granted ends at or before the clock
pub granted_span_ends : (s : State) (role : Role) (request : Request) (taken : Change) → first_refusal s role request ≡ None → change_of s request ≡ Some taken → AllByRecursion (λ span. span.last ≤ s.clock) (cons_option (span_by taken) [])
granted_span_ends s role (Update (Create attribute)) taken granted asks = asked_change (SpanEnds s) (change.Create s.next attribute) taken asks tt
granted_span_ends s role (Update (Delete object)) taken granted asks = asked_change (SpanEnds s) (change.Delete object) taken asks tt
granted_span_ends s role (Query question) taken granted asks = cc
granted_span_ends s role (Update (Write object offset bytes)) taken granted asks = asked_change (SpanEnds s) (change.Write object offset bytes) taken asks tt
granted_span_ends s role (Update (Append object bytes)) taken granted asks = asked_change (SpanEnds s) _ taken asks tt
granted_span_ends s role (Update (Truncate object size)) taken granted asks = asked_change (SpanEnds s) (change.Truncate object size) taken asks tt
granted_span_ends s role (Update (SetAttr object attribute)) taken granted asks = asked_change (SpanEnds s) (change.SetAttr object attribute) taken asks tt
granted_span_ends s role (Control (SetWindow window)) taken granted asks = asked_change (SpanEnds s) (change.SetWindow window) taken asks tt
granted_span_ends s role (Control (Flush first last)) taken granted asks = asked_change (SpanEnds s) (change.Flush first last) taken asks (span_end first last s.clock (none_applies s role (Control (Flush first last)) granted).1.1.1.0, tt)
granted_span_ends s role (Control (FlushO object first last)) taken granted asks = asked_change (SpanEnds s) (change.FlushO object first last) taken asks (span_end first last s.clock (none_applies s role (Control (FlushO object first last)) granted).1.1.1.0, tt)

-- a span that is granted is of a number that was given, or of all objects
pub granted_span_is_owned : (s : State) (role : Role) (request : Request) (taken : Change) → 1 ≤ s.next → first_refusal s role request ≡ None → change_of s request ≡ Some taken → AllByRecursion (IsOfGiven s.next) (cons_option (span_by taken) [])
granted_span_is_owned s role (Update (Create attribute)) taken low granted asks = asked_change (SpanIsOwned s) (change.Create s.next attribute) taken asks tt
granted_span_is_owned s role (Update (Delete object)) taken low granted asks = asked_change (SpanIsOwned s) (change.Delete object) taken asks tt
granted_span_is_owned s role (Query question) taken low granted asks = cc
granted_span_is_owned s role (Update (Write object offset bytes)) taken low granted asks = asked_change (SpanIsOwned s) (change.Write object offset bytes) taken asks tt
granted_span_is_owned s role (Update (Append object bytes)) taken low granted asks = asked_change (SpanIsOwned s) _ taken asks tt
granted_span_is_owned s role (Update (Truncate object size)) taken low granted asks = asked_change (SpanIsOwned s) (change.Truncate object size) taken asks tt
granted_span_is_owned s role (Update (SetAttr object attribute)) taken low granted asks = asked_change (SpanIsOwned s) (change.SetAttr object attribute) taken asks tt
granted_span_is_owned s role (Control (SetWindow window)) taken low granted asks = asked_change (SpanIsOwned s) (change.SetWindow window) taken asks tt
granted_span_is_owned s role (Control (Flush first last)) taken low granted asks = asked_change (SpanIsOwned s) (change.Flush first last) taken asks (omega arith, tt)
granted_span_is_owned s role (Control (FlushO object first last)) taken low granted asks = asked_change (SpanIsOwned s) (change.FlushO object first last) taken asks (leb-false s.next object (or_parts (object == 0) (leb s.next object) (object_is_there s role (Control (FlushO object first last)) granted)).1, tt)

abbrev SpanIsOneMore : State → Change → Type 0
SpanIsOneMore s c = AllByRecursion (λ span. is_one_span_too_many s span ≡ false) (cons_option (span_by c) [])

-- a span that is granted isn't one too many
pub granted_span_is_not_too_many : (s : State) (role : Role) (request : Request) (taken : Change) → first_refusal s role request ≡ None → change_of s request ≡ Some taken → AllByRecursion (λ span. is_one_span_too_many s span ≡ false) (cons_option (span_by taken) [])
granted_span_is_not_too_many s role (Update (Create attribute)) taken granted asks = asked_change (SpanIsOneMore s) (change.Create s.next attribute) taken asks tt
granted_span_is_not_too_many s role (Update (Delete object)) taken granted asks = asked_change (SpanIsOneMore s) (change.Delete object) taken asks tt
granted_span_is_not_too_many s role (Query question) taken granted asks = cc
granted_span_is_not_too_many s role (Update (Write object offset bytes)) taken granted asks = asked_change (SpanIsOneMore s) (change.Write object offset bytes) taken asks tt
granted_span_is_not_too_many s role (Update (Append object bytes)) taken granted asks = asked_change (SpanIsOneMore s) _ taken asks tt
granted_span_is_not_too_many s role (Update (Truncate object size)) taken granted asks = asked_change (SpanIsOneMore s) (change.Truncate object size) taken asks tt
granted_span_is_not_too_many s role (Update (SetAttr object attribute)) taken granted asks = asked_change (SpanIsOneMore s) (change.SetAttr object attribute) taken asks tt
granted_span_is_not_too_many s role (Control (SetWindow window)) taken granted asks = asked_change (SpanIsOneMore s) (change.SetWindow window) taken asks tt
granted_span_is_not_too_many s role (Control (Flush first last)) taken granted asks = asked_change (SpanIsOneMore s) (change.Flush first last) taken asks ((none_applies s role (Control (Flush first last)) granted).1.1.1.1.1.1.1.1.0, tt)
granted_span_is_not_too_many s role (Control (FlushO object first last)) taken granted asks = asked_change (SpanIsOneMore s) (change.FlushO object first last) taken asks ((none_applies s role (Control (FlushO object first last)) granted).1.1.1.1.1.1.1.1.0, tt)

-- what a client is granted hides nothing
pub client_hides_nothing : (s : State) (request : Request) (taken : Change) → first_refusal s Client request ≡ None → change_of s request ≡ Some taken → span_by taken ≡ None
client_hides_nothing s (Update (Create attribute)) taken granted asks = asked_change HidesNothing (change.Create s.next attribute) taken asks refl
client_hides_nothing s (Update (Delete object)) taken granted asks = asked_change HidesNothing (change.Delete object) taken asks refl
client_hides_nothing s (Query question) taken granted asks = cc
client_hides_nothing s (Update (Write object offset bytes)) taken granted asks = asked_change HidesNothing (change.Write object offset bytes) taken asks refl
client_hides_nothing s (Update (Append object bytes)) taken granted asks = asked_change HidesNothing _ taken asks refl
client_hides_nothing s (Update (Truncate object size)) taken granted asks = asked_change HidesNothing (change.Truncate object size) taken asks refl
client_hides_nothing s (Update (SetAttr object attribute)) taken granted asks = asked_change HidesNothing (change.SetAttr object attribute) taken asks refl
client_hides_nothing s (Control (SetWindow window)) taken granted asks = absurd (true≢false (none_applies s Client (Control (SetWindow window)) granted).0)
client_hides_nothing s (Control (Flush first last)) taken granted asks = absurd (true≢false (none_applies s Client (Control (Flush first last)) granted).0)
client_hides_nothing s (Control (FlushO object first last)) taken granted asks = absurd (true≢false (none_applies s Client (Control (FlushO object first last)) granted).0)

-- a span that is granted over an object is of one
pub granted_object_is_no_zero : (s : State) (role : Role) (object first last : ℕ) → first_refusal s role (Control (FlushO object first last)) ≡ None → (object == 0) ≡ false
granted_object_is_no_zero s role object first last granted = (or_parts (object == 0) (leb s.next object) (object_is_there s role (Control (FlushO object first last)) granted)).0

abbrev LeavesWindow : ℕ → Change → Type 0
LeavesWindow window change = window_by change window ≡ window

-- what a client is granted leaves the window
pub client_leaves_window : (s : State) (request : Request) (taken : Change) (window : ℕ) → first_refusal s Client request ≡ None → change_of s request ≡ Some taken → window_by taken window ≡ window
client_leaves_window s (Update (Create attribute)) taken window granted asks = asked_change (LeavesWindow window) (change.Create s.next attribute) taken asks refl
client_leaves_window s (Update (Delete object)) taken window granted asks = asked_change (LeavesWindow window) (change.Delete object) taken asks refl
client_leaves_window s (Query question) taken window granted asks = cc
client_leaves_window s (Update (Write object offset bytes)) taken window granted asks = asked_change (LeavesWindow window) (change.Write object offset bytes) taken asks refl
client_leaves_window s (Update (Append object bytes)) taken window granted asks = asked_change (LeavesWindow window) _ taken asks refl
client_leaves_window s (Update (Truncate object size)) taken window granted asks = asked_change (LeavesWindow window) (change.Truncate object size) taken asks refl
client_leaves_window s (Update (SetAttr object attribute)) taken window granted asks = asked_change (LeavesWindow window) (change.SetAttr object attribute) taken asks refl
client_leaves_window s (Control (SetWindow new_window)) taken window granted asks = absurd (true≢false (none_applies s Client (Control (SetWindow new_window)) granted).0)
client_leaves_window s (Control (Flush first last)) taken window granted asks = absurd (true≢false (none_applies s Client (Control (Flush first last)) granted).0)
client_leaves_window s (Control (FlushO object first last)) taken window granted asks = absurd (true≢false (none_applies s Client (Control (FlushO object first last)) granted).0)

-- what is granted keeps the limits
pub granted_fits : (s : State) (role : Role) (request : Request) (taken : Change) → first_refusal s role request ≡ None → change_of s request ≡ Some taken → Fits taken
granted_fits s role (Update (Create attribute)) taken granted asks = asked_change Fits (change.Create s.next attribute) taken asks (ltb-false ATTRIBUTE_BYTES (length attribute) (none_applies s role (Update (Create attribute)) granted).1.0)
granted_fits s role (Update (Delete object)) taken granted asks = asked_change Fits (change.Delete object) taken asks tt
granted_fits s role (Query question) taken granted asks = cc
granted_fits s role (Update (Write object offset bytes)) taken granted asks = asked_change Fits (change.Write object offset bytes) taken asks (ltb-false OBJECT_BYTES (offset + length bytes) (none_applies s role (Update (Write object offset bytes)) granted).1.1.0)
granted_fits s role (Update (Append object bytes)) taken granted asks = asked_change Fits (change.Write object (size_of (present s object)) bytes) taken asks (ltb-false OBJECT_BYTES (size_of (present s object) + length bytes) (none_applies s role (Update (Append object bytes)) granted).1.1.0)
granted_fits s role (Update (Truncate object size)) taken granted asks = asked_change Fits (change.Truncate object size) taken asks (ltb-false OBJECT_BYTES size (none_applies s role (Update (Truncate object size)) granted).1.1.0)
granted_fits s role (Update (SetAttr object attribute)) taken granted asks = asked_change Fits (change.SetAttr object attribute) taken asks (ltb-false ATTRIBUTE_BYTES (length attribute) (none_applies s role (Update (SetAttr object attribute)) granted).1.0)
granted_fits s role (Control (SetWindow window)) taken granted asks = asked_change Fits (change.SetWindow window) taken asks tt
granted_fits s role (Control (Flush first last)) taken granted asks = asked_change Fits (change.Flush first last) taken asks tt
granted_fits s role (Control (FlushO object first last)) taken granted asks = asked_change Fits (change.FlushO object first last) taken asks tt

-- a span that is in order, at or before the clock, and of all objects or of one whose number was given
abbrev pub IsOrdered : State → Change → Type 0
IsOrdered s (change.Flush first last) = (first ≤ last) × (last ≤ s.clock)
IsOrdered s (change.FlushO object first last) = (first ≤ last) × (last ≤ s.clock) × (1 ≤ object) × (object < s.next)
IsOrdered s _ = Unit {0}

span_begin : (first last clock : ℕ) → not (leb first last && leb last clock) ≡ false → first ≤ last
span_begin first last clock e = leb-true first last (and_parts (leb first last) (leb last clock) (not-false (leb first last && leb last clock) e)).0

above_zero : (object : ℕ) → (object == 0) ≡ false → 1 ≤ object
above_zero zero e = absurd (true≢false e)
above_zero (suc object) e = omega arith

-- a span that is granted is
pub granted_span_is_ordered : (s : State) (role : Role) (request : Request) (taken : Change) → first_refusal s role request ≡ None → change_of s request ≡ Some taken → IsOrdered s taken
granted_span_is_ordered s role (Update (Create attribute)) taken granted asks = asked_change (IsOrdered s) (change.Create s.next attribute) taken asks tt
granted_span_is_ordered s role (Update (Delete object)) taken granted asks = asked_change (IsOrdered s) (change.Delete object) taken asks tt
granted_span_is_ordered s role (Query question) taken granted asks = cc
granted_span_is_ordered s role (Update (Write object offset bytes)) taken granted asks = asked_change (IsOrdered s) (change.Write object offset bytes) taken asks tt
granted_span_is_ordered s role (Update (Append object bytes)) taken granted asks = asked_change (IsOrdered s) (change.Write object (size_of (present s object)) bytes) taken asks tt
granted_span_is_ordered s role (Update (Truncate object size)) taken granted asks = asked_change (IsOrdered s) (change.Truncate object size) taken asks tt
granted_span_is_ordered s role (Update (SetAttr object attribute)) taken granted asks = asked_change (IsOrdered s) (change.SetAttr object attribute) taken asks tt
granted_span_is_ordered s role (Control (SetWindow window)) taken granted asks = asked_change (IsOrdered s) (change.SetWindow window) taken asks tt
granted_span_is_ordered s role (Control (Flush first last)) taken granted asks =
    let bad = (none_applies s role (Control (Flush first last)) granted).1.1.1.0 in
    asked_change (IsOrdered s) (change.Flush first last) taken asks (span_begin first last s.clock bad, span_end first last s.clock bad)
granted_span_is_ordered s role (Control (FlushO object first last)) taken granted asks =
    let bad = (none_applies s role (Control (FlushO object first last)) granted).1.1.1.0 in
    let there = or_parts (object == 0) (leb s.next object) (object_is_there s role (Control (FlushO object first last)) granted) in
    asked_change (IsOrdered s) (change.FlushO object first last) taken asks
    (span_begin first last s.clock bad, span_end first last s.clock bad, above_zero object there.0, leb-false s.next object there.1)
