use Rattle.std.proofs.Common.{rules, ℕ, ◌≡◌, ◌∙◌, ◌++◌, List, [], ◌∷◌, ap, sym, subst, append_assoc, arith}
use Rattle.std.proofs.lemmas.List.{append-nil}
use Rattle.std.proofs.lemmas.Str.Pattern.{split_parts}
use Rattle.history_restore.specs.declared.aims.StandIn.{StandIn}
use Rattle.s4_restore.specs.Maps.{AreSaid, lines_of, option_list}
use Rattle.s4_restore.proofs.Said.{first_line, only_line, said_more}
use Rattle.s4_restore.proofs.maps.said_in.Goals as goal

pub loop-line-preserved : goal.loop-line-preserved
loop-line-preserved c =
    let l = c.loop-line in
    let line = c.in-Some.line.now in
    let after = c.in-Some.after.now in
    let text = c.args.text.now in
    let cut = rw c.in-Some.is at (split_parts 10 l.rest.now c.split_once.result c.split_once.ensures.cases (omega arith)) in
    let first : lines_of l.rest.now ≡ line ∷ lines_of after = ap lines_of cut.0 ∙ first_line line after cut.1 in
    let takes = c.in_ok-take_line.ensures.takes in (
      search rules,
      λ more rest.
          let here : AreSaid (line ∷ lines_of after) (option_list takes.0 ++ more) = said_more line (lines_of after) takes.0 more takes.1 rest in
          let whole : AreSaid (lines_of text) (l.said.items ++ (option_list takes.0 ++ more)) =
          l.invariant.1 (option_list takes.0 ++ more) (subst (λ (ls : List (List ℕ)). AreSaid ls (option_list takes.0 ++ more)) (sym first) here) in
          subst (λ (items : List StandIn). AreSaid (lines_of text) (items ++ more)) (sym takes.2)
          (subst (AreSaid (lines_of text)) (sym (append_assoc l.said.items (option_list takes.0) more)) whole),
    )

pub returns : goal.returns
returns c =
    let l = c.loop-line in
    let text = c.args.text.now in
    let none = rw c.in_default.is at (split_parts 10 l.rest.now c.split_once.result c.split_once.ensures.cases (omega arith)) in
    let takes = c.in_ok-take_line-2.ensures.takes in
    let here : AreSaid (l.rest.now ∷ []) (option_list takes.0 ++ []) = said_more l.rest.now [] takes.0 [] takes.1 tt in
    let last : AreSaid (lines_of l.rest.now) (option_list takes.0) =
    subst (AreSaid (lines_of l.rest.now)) (append-nil (option_list takes.0)) (subst (λ (ls : List (List ℕ)). AreSaid ls (option_list takes.0 ++ [])) (sym (only_line l.rest.now none)) here) in
    record { said = subst (AreSaid (lines_of text)) (sym takes.2) (l.invariant.1 (option_list takes.0) last) }
