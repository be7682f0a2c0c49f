-- One more object is copied.
use Rattle.std.proofs.Common.{◌≡◌, ℕ, ◌+◌, ◌-◌, ◌≤◌, List, [], ◌∷◌, ◌++◌, length, drop, Option, None, refl, sym, ap, subst, ◌∙◌, arith}
use Rattle.std.specs.List.{AllByRecursion}
use Rattle.std.proofs.lemmas.Bool.{ne_eqb}
use Rattle.std.proofs.lemmas.List.{append_assoc, length-drop}
use Rattle.s4_types.specs.Pointer.{Place}
use Rattle.block_log.specs.Log.{Log, Stored, seen_as}
use Rattle.codec.specs.declared.versions.ImageVersion.{ImageVersion}
use Rattle.object_map.specs.declared.map.Row.{Row}
use Rattle.image_objects.specs.declared.rows.ImageRow.{ImageRow}
use Rattle.image_objects.specs.Versions.{ObjectStandsBy}
use Rattle.migration.specs.Rows.{AscendAbove, CopiesObject, CopyRows, blocks_of, blocks_of_rows}
use Rattle.migration.specs.private.Copied.{CopyingRows}

-- Of images of this version.
module _ (v : ImageVersion) where
  pub begun : (used : Place → Option Stored) (clock : ℕ) (rows : List ImageRow) (log : Log) → AscendAbove 0 rows → AllByRecursion (λ row. ObjectStandsBy v used row clock) rows → ((p : Place) → log.held p ≡ None) → blocks_of_rows v used rows ≤ length log.ahead
      → CopyingRows v used clock rows rows log log []
  begun used clock rows log ascend stand empty room = record {
    front = [];
    split = refl;
    copied = refl;
    last = 0;
    ascend = ascend;
    stand = stand;
    nothing = λ o above kind p. ap (seen_as kind o) (empty p);
    room = room;
  }

  copied_push : (used : Place → Option Stored) (front : List ImageRow) (row : ImageRow) (laters : List Row) (later : Row) (before now after : Log) → CopyRows v used front laters before now → CopiesObject v used row now after later → CopyRows v used (front ++ row ∷ []) (laters ++ later ∷ []) before after
  copied_push used [] row [] later before now after copied one = (after, subst (λ (l : Log). CopiesObject v used row l after later) (sym copied) one, refl)
  copied_push used [] row (other ∷ laters) later before now after copied one = absurd copied
  copied_push used (first ∷ front) row [] later before now after copied one = absurd copied
  copied_push used (first ∷ front) row (other ∷ laters) later before now after (between, here, rest) one = (between, here, copied_push used front row laters later between now after rest one)

  pub one_copied : (used : Place → Option Stored) (clock : ℕ) (rows rest : List ImageRow) (row : ImageRow) (before now after : Log) (laters : List Row) (later : Row)
      → CopyingRows v used clock rows (row ∷ rest) before now laters → CopiesObject v used row now after later → CopyingRows v used clock rows rest before after (laters ++ later ∷ [])
  one_copied used clock rows rest row before now after laters later c one = record {
    front = c.front ++ row ∷ [];
    split = c.split ∙ sym (append_assoc c.front (row ∷ []) rest);
    copied = copied_push used c.front row laters later before now after c.copied one;
    last = row.object;
    ascend = c.ascend.1;
    stand = c.stand.1;
    nothing = λ o above kind p. (λ i. (one.others kind o (ne_eqb row.object o (λ same. omega (arith, same, above))) i) p) ∙ c.nothing o (omega (arith, c.ascend.0, above)) kind p;
    room = left (blocks_of v used row) (blocks_of_rows v used rest) now.ahead after.ahead one.takes.ahead c.room;
  }
    where
      left : (n m : ℕ) (ahead rest : List Place) → rest ≡ drop n ahead → n + m ≤ length ahead → m ≤ length rest
      left n m ahead rest is room = let count : length rest ≡ length ahead - n = ap length is ∙ length-drop n ahead in omega (arith, count, room)
