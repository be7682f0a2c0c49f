use Rattle.std.proofs.Common.{◌≡◌, ◌≢◌, ◌%◌, ◌<◌, ℕ, zero, suc, refl, sym, ap, arith}
use Rattle.segment_word.specs.Frames.{Draining}
use Rattle.segment_word.specs.Layout.{phase_of}
use Rattle.verifier.proofs.tables.state_in.Goals as goal

last_phase : (n : ℕ) → n < 4 → n ≢ 0 → n ≢ 1 → n ≢ 2 → Draining ≡ phase_of n
last_phase zero below a b d = absurd (a refl)
last_phase (suc zero) below a b d = absurd (b refl)
last_phase (suc (suc zero)) below a b d = absurd (d refl)
last_phase (suc (suc (suc zero))) below a b d = refl
last_phase (suc (suc (suc (suc n)))) below a b d = absurd (omega arith)

pub returns-in-0 : goal.returns-in-0
returns-in-0 c = sym (ap phase_of c.in-0.is)

pub returns-in-1 : goal.returns-in-1
returns-in-1 c = sym (ap phase_of c.in-1.is)

pub returns-in-2 : goal.returns-in-2
returns-in-2 c = sym (ap phase_of c.in-2.is)

pub returns-in_default : goal.returns-in_default
returns-in_default c = last_phase (c.args.word % 4) (omega arith) (omega arith) (omega arith) (omega arith)
