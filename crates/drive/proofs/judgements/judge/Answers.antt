use Rattle.std.proofs.Common.{◌≡◌, ◌⊎◌, ◌+◌, ◌<◌, ◌≤◌, ◌==◌, ◌||◌, ℕ, nat_lt, if◌then◌else◌, Option, None, Some, IsSome, Result, Ok, Err, MatchResult, unwrap_or, List, length, inl, inr, refl, ap, arith}
use Rattle.std.proofs.lemmas.Bool.{cases_lt, lt-ltb, le-ltb}
use Rattle.std.proofs.lemmas.Grind.{common_steps}
use Rattle.s4_types.specs.declared.limits.TheConstants.{OBJECT_BYTES}
use Rattle.s4_types.specs.declared.changes.Change.{Change}
use Rattle.s4_types.specs.declared.changes.Change.TheVariants as change
use Rattle.s4_types.specs.declared.refusals.Refusal.{Refusal}
use Rattle.s4_types.specs.declared.refusals.Refusal.TheVariants.{ClockEnd, NoObject, TooLarge}
use Rattle.s4_types.specs.declared.versions.Version.{Version}
use Rattle.s4_types.specs.declared.versions.Version.TheVariants.{Absent, Live}
use Rattle.s4_model.specs.Refusals.{last_number, live_size_of, size_of, is_absent, present}
use Rattle.drive.proofs.judgements.judge.Goals as goal

-- what is left to refuse where the object has to be there and a later moment is to be given
abbrev left : Version → ℕ → Option Refusal
left v clock = if is_absent v then Some NoObject else (if clock == last_number then Some ClockEnd else None)

-- What `judge_there` says, as what is left to refuse.
there : (v : Version) (at clock : ℕ) (size : Option ℕ) (asked : Change) (result : Result Change Refusal) →
    at ≡ clock → live_size_of v ≡ size →
    MatchResult result
    (λ judged. (judged ≡ asked) × (IsSome size × (clock < last_number)))
    (λ e. ((e ≡ NoObject) × (size ≡ None)) ⊎ ((e ≡ ClockEnd) × (IsSome size × (clock ≡ last_number)))) →
    MatchResult result (λ judged. (left v at ≡ None) × (Some asked ≡ Some judged)) (λ e. left v at ≡ Some e)
there Absent at clock size asked (Ok judged) same is h = grind (arith, common_steps)
there Absent at clock size asked (Err e) same is h = grind (arith, common_steps)
there (Live content attribute created changed) at clock size asked (Ok judged) same is h = grind (arith, common_steps)
there (Live content attribute created changed) at clock size asked (Err e) same is h = grind (arith, common_steps)

-- What `judge_append` says, likewise.
appended : (v : Version) (at clock : ℕ) (size : Option ℕ) (object : ℕ) (bytes : List ℕ) (result : Result Change Refusal) →
    at ≡ clock → live_size_of v ≡ size →
    (OBJECT_BYTES < unwrap_or size 0 + length bytes → result ≡ Err TooLarge) →
    (unwrap_or size 0 + length bytes ≤ OBJECT_BYTES → MatchResult result
    (λ judged. (judged ≡ change.Write object (unwrap_or size 0) bytes) × (IsSome size × (clock < last_number)))
    (λ e. ((e ≡ NoObject) × (size ≡ None)) ⊎ ((e ≡ ClockEnd) × (IsSome size × (clock ≡ last_number))))) →
    MatchResult result
    (λ judged. ((if nat_lt OBJECT_BYTES (size_of v + length bytes) then Some TooLarge else left v at) ≡ None) × (Some (change.Write object (size_of v) bytes) ≡ Some judged))
    (λ e. (if nat_lt OBJECT_BYTES (size_of v + length bytes) then Some TooLarge else left v at) ≡ Some e)
appended v at clock size object bytes result same is large fits =
    let told : size_of v ≡ unwrap_or size 0 = ap (λ (x : Option ℕ). unwrap_or x 0) is in
    elim (cases_lt OBJECT_BYTES (size_of v + length bytes)) [
      | inl above ↦ rw (large (rw told at above), lt-ltb OBJECT_BYTES (size_of v + length bytes) above) refl
      | inr within ↦ rw (le-ltb OBJECT_BYTES (size_of v + length bytes) within, told) (there v at clock size (change.Write object (unwrap_or size 0) bytes) result same is (fits (rw told at within)))
    ]

-- What `judge_create` says, likewise.
created : (at clock n next : ℕ) (attribute : List ℕ) (result : Result Change Refusal) →
    at ≡ clock → n ≡ next →
    MatchResult result
    (λ judged. (judged ≡ change.Create next attribute) × ((clock < last_number) × (next < last_number)))
    (λ e. (e ≡ ClockEnd) × ((clock ≡ last_number) ⊎ (next ≡ last_number))) →
    MatchResult result
    (λ judged. ((if (at == last_number) || (n == last_number) then Some ClockEnd else None) ≡ None) × (Some (change.Create n attribute) ≡ Some judged))
    (λ e. (if (at == last_number) || (n == last_number) then Some ClockEnd else None) ≡ Some e)
created at clock n next attribute (Ok judged) same also h = grind (arith, common_steps)
created at clock n next attribute (Err e) same also h = grind (arith, common_steps)

pub returns-in-Create-clause-judged : goal.returns-in-Create-clause-judged
returns-in-Create-clause-judged c = λ s clock next size.
    rw c.in-Create.is (created s.clock c.args.clock s.next c.args.next c.in-Create.attribute c.judge_create.result clock next c.judge_create.ensures)

pub returns-in-Append-clause-judged : goal.returns-in-Append-clause-judged
returns-in-Append-clause-judged c = λ s clock next size.
    rw c.in-Append.is (appended (present s c.in-Append.object) s.clock c.args.clock c.args.size c.in-Append.object c.in-Append.bytes c.judge_append.result clock (rw c.in-Append.is at size) c.judge_append.ensures.large c.judge_append.ensures.fits)

pub returns-in-Delete-clause-judged : goal.returns-in-Delete-clause-judged
returns-in-Delete-clause-judged c = λ s clock next size.
    rw c.in-Delete.is (there (present s c.in-Delete.object) s.clock c.args.clock c.args.size (change.Delete c.in-Delete.object) c.judge_there.result clock (rw c.in-Delete.is at size) c.judge_there.ensures)

pub returns-in-Write-clause-judged : goal.returns-in-Write-clause-judged
returns-in-Write-clause-judged c = λ s clock next size.
    rw c.in-Write.is (there (present s c.in-Write.object) s.clock c.args.clock c.args.size (change.Write c.in-Write.object c.in-Write.offset c.in-Write.bytes) c.judge_there-in-Write.result clock (rw c.in-Write.is at size) c.judge_there-in-Write.ensures)

pub returns-in-Truncate-clause-judged : goal.returns-in-Truncate-clause-judged
returns-in-Truncate-clause-judged c = λ s clock next size.
    rw c.in-Truncate.is (there (present s c.in-Truncate.object) s.clock c.args.clock c.args.size (change.Truncate c.in-Truncate.object c.in-Truncate.n) c.judge_there-in-Truncate.result clock (rw c.in-Truncate.is at size) c.judge_there-in-Truncate.ensures)

pub returns-in-SetAttr-clause-judged : goal.returns-in-SetAttr-clause-judged
returns-in-SetAttr-clause-judged c = λ s clock next size.
    rw c.in-SetAttr.is (there (present s c.in-SetAttr.object) s.clock c.args.clock c.args.size (change.SetAttr c.in-SetAttr.object c.in-SetAttr.attribute) c.judge_there-in-SetAttr.result clock (rw c.in-SetAttr.is at size) c.judge_there-in-SetAttr.ensures)
