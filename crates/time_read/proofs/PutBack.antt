-- Pointers that are put back, one after another.
use Rattle.std.proofs.Common.{◌≡◌, List, [], ◌∷◌, ◌++◌, length, set, Option, refl, ap, ◌∙◌}
use Rattle.std.specs.Prelude.{reverse}
use Rattle.std.proofs.lemmas.List.{reverse-append, length-set}
use Rattle.s4_types.specs.Pointer.{Place}
use Rattle.time_read.specs.Earlier.{Earlier}
use Rattle.time_read.specs.Undoings.{put_back}

pub put_back_append : (qs ps : List Earlier) (pointers : List (Option Place)) → put_back (qs ++ ps) pointers ≡ put_back ps (put_back qs pointers)
put_back_append [] ps pointers = refl
put_back_append (q ∷ qs) ps pointers = put_back_append qs ps _

pub put_back_length : (ps : List Earlier) (pointers : List (Option Place)) → length (put_back ps pointers) ≡ length pointers
put_back_length [] pointers = refl
put_back_length (p ∷ ps) pointers = put_back_length ps (set pointers p.index p.before) ∙ length-set pointers p.index p.before

pub put_back_last : (p : Earlier) (ps : List Earlier) (pointers : List (Option Place)) → put_back (reverse (p ∷ ps)) pointers ≡ set (put_back (reverse ps) pointers) p.index p.before
put_back_last p ps pointers = ap (λ (l : List Earlier). put_back l pointers) (reverse-append (p ∷ []) ps) ∙ put_back_append (reverse ps) (p ∷ []) pointers
