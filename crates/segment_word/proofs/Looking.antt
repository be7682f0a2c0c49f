-- A load keeps the rule, since it changes nothing, and tells what the rule says of its word.
use Rattle.std.proofs.Common.{◌≡◌, ℕ, List, length, slice_index, refl, sym, ap, ◌∙◌, subst}
use mathlib.Core.Option.{none, some}
use lib.ListN.{get_elem?}
use lib.Seq.{set-get_or}
use Rattle.atomic_table.specs.Table.{State, step, keeps, stepped, Allows}
use Rattle.atomic_table.proofs.Lists.{set_again}
use Rattle.segment_word.specs.Frames.{Frame, View}
use Rattle.segment_word.specs.Counting.{readers, drive_frames}
use Rattle.segment_word.specs.FrameRule.{FrameRules, FrameRule}
use Rattle.segment_word.specs.Steps.{Sat, Looks, ReadsBlockWord}
use Rattle.segment_word.proofs.Sums.{frames-first}

-- a step that writes what it found, by a seat that keeps its view, leaves the rule
pub unmoved : (s : State (Unit {0}) View) (id : ℕ) (me : Sat) (i : ℕ) → FrameRule s → get_elem? s.views id ≡ some me.0
    → FrameRule (stepped s i (slice_index s.words i) id me.1 me.0 keeps)
unmoved s id me i rule at = subst (λ (z : List ℕ × List View). FrameRules z.0 z.1 (drive_frames z.1))
    (λ t. (sym (set-get_or s.words i 0) t, sym (set_again s.views id me.0 at) t)) rule

pub looks : (slots id : ℕ) (me : Sat) (i : ℕ) → id ≡ 0 → Allows FrameRule slots id me i (λ n. n) (Looks (step slots i 0 0 none) me)
looks slots id me i z s rule _ at small =
    let known : drive_frames s.views ≡ me.0.frames = frames-first s.views id me.0 z at in
    let r : FrameRules s.words s.views me.0.frames = subst (λ (l : List Frame). FrameRules s.words s.views l) known rule in (
      me.0,
      keeps,
      tt,
      unmoved s id me i rule at,
      record {
        same = refl;
        state = λ f h e. let k = r.kept f h in record {
          readers = readers f s.views;
          word = ap (λ (n : ℕ). slice_index s.words n) e ∙ k.state;
          few = k.counted;
          unread = k.unread;
          started = k.started;
          numbered = k.numbered;
          goes_on = k.goes_on;
        };
        block = λ f j h hj e. let k = r.kept f h in ap (λ (n : ℕ). slice_index s.words n) e ∙ k.blocks j hj;
        whole = λ f h. (r.kept f h).whole;
        agrees = r.pinned id me.0 at;
        remembered = r.remembered id me.0 at;
      },
    )

pub reads : (slots id : ℕ) (me : Sat) (i : ℕ) → Allows FrameRule slots id me i (λ n. n) (ReadsBlockWord (step slots i 0 0 none) me)
reads slots id me i s rule _ at small = (
  me.0,
  keeps,
  tt,
  unmoved s id me i rule at,
  (
    refl,
    λ q p j e hj is. let a = rule.pinned id me.0 at q p e in let k = rule.kept p.number a.inside in
        (ap (λ (n : ℕ). slice_index s.words n) is ∙ k.blocks j hj ∙ ap (λ (l : List ℕ). slice_index l j) (sym a.contents), ap length a.contents ∙ k.whole),
  ),
)
