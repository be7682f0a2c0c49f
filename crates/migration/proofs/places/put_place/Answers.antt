use Rattle.std.proofs.Common.{◌≡◌, false, true, get_or, sym, ap, subst, ◌∙◌, arith}
use Rattle.std.specs.List.{insert}
use Rattle.std.proofs.lemmas.List.{get_or_default}
use Rattle.s4_types.specs.Pointer.{Place}
use Rattle.block_log.specs.Log.{same_place}
use Rattle.migration.specs.private.Ranks.{rank_in}
use Rattle.migration.proofs.Sorting.{put_there, put_new}
use Rattle.migration.proofs.places.put_place.Goals.{else-index-len-via-then-index-len+else-is_same_place, else-index-len-via-else-index-len}
use Rattle.migration.proofs.places.put_place.Goals as goal

pub returns-then-is_same_place-clause-places : goal.returns-then-is_same_place-clause-places
returns-then-is_same_place-clause-places c =
    let items = c.args.places.now.items in
    let rank : c.rank_in-index.result ≡ rank_in c.args.place items = c.rank_in-index.ensures.rank ∙ ap (rank_in c.args.place) c.as_slice.ensures.value in
    let d = c.index.result.now in
    let same : same_place d c.args.place ≡ true = sym c.is_same_place.ensures ∙ c.if-is_same_place.true in
    let at : d ≡ get_or items (rank_in c.args.place items) d = c.index.ensures ∙ ap (λ n. get_or items n d) rank in
    let l = c.if-index-len.true in
    sym (put_there c.args.place items d (omega (arith, rank, l, c.len.ensures)) (subst (λ (x : Place). same_place x c.args.place ≡ true) at same))

pub returns-clause-places : goal.returns-clause-places
returns-clause-places c =
    let items = c.args.places.now.items in
    let rank : c.rank_in-index.result ≡ rank_in c.args.place items = c.rank_in-index.ensures.rank ∙ ap (rank_in c.args.place) c.as_slice.ensures.value in
    c.in_ok-insert.ensures.items ∙ ap (λ n. insert items n c.args.place) rank
    ∙ put_new c.args.place items c.args.place (λ l. elim c.else-index-len.branch [
      | else-index-len-via-then-index-len+else-is_same_place w ↦ (let d = w.index.result.now in
          let other : same_place d c.args.place ≡ false = sym w.is_same_place.ensures ∙ w.if-is_same_place.false in
          let at : d ≡ get_or items (rank_in c.args.place items) c.args.place = w.index.ensures ∙ ap (λ n. get_or items n d) rank ∙ get_or_default items (rank_in c.args.place items) d c.args.place l in
          subst (λ (x : Place). same_place x c.args.place ≡ false) at other)
      | else-index-len-via-else-index-len w ↦ (let none = w.if-index-len.false in absurd (omega (arith, rank, l, none, c.len.ensures)))
    ])
