use Rattle.std.proofs.Common.{◌≡◌, ◌<◌, ◌+◌, ◌∙◌, ◌++◌, [], ◌∷◌, ℕ, List, length, take, get_or, sym, ap, subst}
use Rattle.std.proofs.lemmas.Grind.{flat_map-append}
use Rattle.std.proofs.lemmas.List.{append-nil, take_more}
use Rattle.std.specs.Global.{Vec}
use Rattle.std.specs.List.{flat_map}
use Rattle.rpc.specs.Stream.{ReadsItems}
use Rattle.rpc.proofs.reader.read_all.Goals as goal

-- the bytes of the pieces up to this one, and then its own
one_piece_more : (pieces : List (Vec ℕ)) (i : ℕ) (piece : Vec ℕ) → i < length pieces → piece ≡ get_or pieces i piece → flat_map (λ (p : Vec ℕ). p.items) (take (i + 1) pieces) ≡ flat_map (λ (p : Vec ℕ). p.items) (take i pieces) ++ piece.items
one_piece_more pieces i piece lt is =
    ap (λ (x : List (Vec ℕ)). flat_map (λ (p : Vec ℕ). p.items) x) (take_more pieces i piece lt ∙ ap (λ (p : Vec ℕ). take i pieces ++ p ∷ []) (sym is))
    ∙ flat_map-append (λ (p : Vec ℕ). p.items) (take i pieces) (piece ∷ [])
    ∙ ap (λ (x : List ℕ). flat_map (λ (p : Vec ℕ). p.items) (take i pieces) ++ x) (append-nil piece.items)

pub loop-piece-preserved : goal.loop-piece-preserved
loop-piece-preserved g c =
    let before : List ℕ = flat_map (λ (p : Vec ℕ). p.items) (take c.loop-piece.piece-index c.args.pieces.now) in
    let more = one_piece_more c.args.pieces.now c.loop-piece.piece-index c.piece-item.result c.loop-piece-test.true c.piece-item.is in
    subst (λ (x : List ℕ). ReadsItems g.T.Message.spells x c.read_on.new.items.items c.read_on.new.reader) (sym (more ∙ ap (λ (x : List ℕ). before ++ x) (sym c.deref.ensures.value))) (c.in_ok-read_on.ensures.read before c.loop-piece.invariant)
