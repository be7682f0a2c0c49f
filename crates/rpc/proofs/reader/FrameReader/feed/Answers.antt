use Rattle.std.proofs.Common.{◌≡◌, ◌<◌, ◌+◌, ◌∙◌, ℕ, List, Bool, true, false, Some, None, cond, length, take, sym, ap, subst, arith}
use Rattle.std.specs.Prelude.{IfSome}
use Rattle.std.proofs.lemmas.List.{take_at}
use Rattle.s4_types.specs.declared.limits.TheConstants.{FRAME_BODY_BYTES}
use Rattle.rpc.specs.Stream.{IsPartial}
use Rattle.rpc.specs.private.Filling.{IsGrown}
use Rattle.rpc.proofs.StreamLaws.{partial_bound}
use Rattle.rpc.proofs.reader.FrameReader.feed.Goals as goal

-- grown bytes that are cut to their old length are the old ones
cut_back : (old new cut : List ℕ) (n : ℕ) → n ≡ length old → IsGrown old new → cut ≡ take n new → cut ≡ old
cut_back old new cut n size g is = is ∙ ap (λ (x : List ℕ). take n x) g.grown ∙ take_at old g.taken n (sym size)

-- what is held, where it is read on, is less than a frame
less : (reads_on : Bool) (held : List ℕ) → IsPartial held → IfSome (cond reads_on (Some held) None) IsPartial × IfSome (cond reads_on (Some held) None) (λ x. length x < 4 + FRAME_BODY_BYTES)
less true held partial = (partial, partial_bound held partial)
less false held partial = (tt, tt)

pub returns-in-Err-clause-kept : goal.returns-in-Err-clause-kept
returns-in-Err-clause-kept g c =
    ap (λ (x : List ℕ). cond c.self.inside.reads_on (Some x) None) (cut_back c.self.inside.held.items c.read_piece.new.held.items c.truncate.new.self.items c.len-before.result (omega (arith, c.self.inside.held.ok.0, c.len-before.ensures)) c.in-Err.ensures.grown c.truncate.ensures.items) ∙ c.self.view_is

pub returns-in-Err-clause-partial : goal.returns-in-Err-clause-partial
returns-in-Err-clause-partial g c =
    let same = cut_back c.self.inside.held.items c.read_piece.new.held.items c.truncate.new.self.items c.len-before.result (omega (arith, c.self.inside.held.ok.0, c.len-before.ensures)) c.in-Err.ensures.grown c.truncate.ensures.items in
    (less c.self.inside.reads_on c.truncate.new.self.items (subst IsPartial (sym same) c.self.invariant.0)).0

pub returns-in-Err-clause-bound : goal.returns-in-Err-clause-bound
returns-in-Err-clause-bound g c =
    let same = cut_back c.self.inside.held.items c.read_piece.new.held.items c.truncate.new.self.items c.len-before.result (omega (arith, c.self.inside.held.ok.0, c.len-before.ensures)) c.in-Err.ensures.grown c.truncate.ensures.items in
    (less c.self.inside.reads_on c.truncate.new.self.items (subst IsPartial (sym same) c.self.invariant.0)).1
