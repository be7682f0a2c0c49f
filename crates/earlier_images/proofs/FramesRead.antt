-- The frames of an image, read one by one.
use Rattle.std.proofs.Common.{◌≡◌, ℕ, suc, ◌+◌, ◌≤◌, ◌||◌, Bool, true, false, cond, List, [], ◌∷◌, ◌++◌, length, refl, sym, ap, subst, ◌∙◌, arith, append_assoc}
use Rattle.std.specs.List.{count_by, AllByRecursion}
use Rattle.std.proofs.lemmas.List.{append-nil}
use Rattle.codec.specs.declared.versions.ImageVersion.{ImageVersion}
use Rattle.codec.specs.declared.versions.ImageVersion.TheVariants.{First, Second}
use Rattle.image_parts.specs.Frames.{FrameFields, is_open, IsReadOf, HasNoParts, KeepsFrameRules, KeepsFrameRulesBy, EachKeepsFrameRules, KeepFrameRules, KeepFrameRulesBy}
use Rattle.image_parts.specs.declared.frame_rules.FrameRead.{FrameRead}
use Rattle.verifier.proofs.Frames.{either_open, count_more}
use Rattle.earlier_images.specs.declared.frames.EarlierFrame.{EarlierFrame}
use Rattle.earlier_images.specs.Used.{AreFramesOf}

-- what a version asks of a frame beside the rules that all have
abbrev pub WithoutPart : ImageVersion → FrameFields → Type 0
WithoutPart First f = HasNoParts f
WithoutPart Second f = Unit {0}

none_asked : (frames : List FrameFields) → AllByRecursion (WithoutPart Second) frames
none_asked [] = tt
none_asked (f ∷ frames) = (tt, none_asked frames)

split : (v : ImageVersion) (frames : List FrameFields) → KeepFrameRulesBy v frames → KeepFrameRules frames × AllByRecursion (WithoutPart v) frames
split First frames keep = keep
split Second frames keep = (keep, none_asked frames)

joined : (v : ImageVersion) (frames : List FrameFields) → KeepFrameRules frames → AllByRecursion (WithoutPart v) frames → KeepFrameRulesBy v frames
joined First frames keep whole = (keep, whole)
joined Second frames keep whole = keep

split_one : (v : ImageVersion) (n : ℕ) (f : FrameFields) → KeepsFrameRulesBy v n f → KeepsFrameRules n f × WithoutPart v f
split_one First n f keeps = keeps
split_one Second n f keeps = (keeps, tt)

joined_one : (v : ImageVersion) (n : ℕ) (f : FrameFields) → KeepsFrameRules n f → WithoutPart v f → KeepsFrameRulesBy v n f
joined_one First n f keeps whole = (keeps, whole)
joined_one Second n f keeps whole = keeps

-- of images of this version
module _ (v : ImageVersion) where
  -- The frames that are left keep the rules, from this number on: of these and an open one before them, if there is one, at most one is open.
  pub record LeftKeep (n : ℕ) (opened : Bool) (left : List FrameFields) : Type 0 where
    pub each : EachKeepsFrameRules n left
    pub whole : AllByRecursion (WithoutPart v) left
    pub open_one : cond {A = ℕ} opened 1 0 + count_by is_open left ≤ 1

  -- The first n frames of an image were read, and these are left. All keep the rules exactly where those do that are left.
  pub record HaveRead (parts : List FrameFields) (n : ℕ) (opened : Bool) (left : List FrameFields) (done : List EarlierFrame) : Type 0 where
    pub on : LeftKeep n opened left → KeepFrameRulesBy v parts
    pub back : KeepFrameRulesBy v parts → LeftKeep n opened left
    pub count : n + length left ≡ length parts
    pub read : (rest : List EarlierFrame) → AreFramesOf left rest → AreFramesOf parts (done ++ rest)

  pub none_read : (parts left : List FrameFields) (done : List EarlierFrame) → left ≡ parts → done ≡ [] → HaveRead parts 0 false left done
  none_read parts left done is none =
      let L : List FrameFields → Type 0 = λ l. HaveRead parts 0 false l done in
      let D : List EarlierFrame → Type 0 = λ d. HaveRead parts 0 false parts d in
      subst L (sym is) (subst D (sym none) (record {
        on = λ keep. joined v parts (record { each = keep.each; open_one = omega (arith, keep.open_one) }) keep.whole;
        back = λ keep. let was = split v parts keep in record { each = was.0.each; whole = was.1; open_one = omega (arith, was.0.open_one) };
        count = omega arith;
        read = λ rest are. are;
      }))

  -- a frame breaks a rule by itself
  pub one_breaks : (parts : List FrameFields) (n : ℕ) (opened : Bool) (f : FrameFields) (rest left : List FrameFields) (done : List EarlierFrame) → HaveRead parts n opened left done → left ≡ f ∷ rest → (KeepsFrameRulesBy v n f → ⊥)
      → KeepFrameRulesBy v parts → ⊥
  one_breaks parts n opened f rest left done h is breaks keep =
      let K : LeftKeep n opened (f ∷ rest) = subst (LeftKeep n opened) is (h.back keep) in
      breaks (joined_one v n f K.each.0 K.whole.0)

  -- two frames are open
  pub two_open : (parts : List FrameFields) (n : ℕ) (opened : Bool) (f : FrameFields) (rest left : List FrameFields) (done : List EarlierFrame) → HaveRead parts n opened left done → left ≡ f ∷ rest → opened ≡ true → is_open f ≡ true
      → KeepFrameRulesBy v parts → ⊥
  two_open parts n opened f rest left done h is before here keep =
      let K : LeftKeep n opened (f ∷ rest) = subst (LeftKeep n opened) is (h.back keep) in
      let a : ◌≡◌ {A = ℕ} (cond opened 1 0) 1 = ap (λ (t : Bool). cond {A = ℕ} t 1 0) before in
      let b : ◌≡◌ {A = ℕ} (cond (is_open f) 1 0) 1 = ap (λ (t : Bool). cond {A = ℕ} t 1 0) here in
      omega (arith, K.open_one, a, b, count_more f rest)

  -- one frame more, which keeps its rules and isn't a second open one
  pub one_read : (parts : List FrameFields) (n : ℕ) (opened : Bool) (f : FrameFields) (rest left : List FrameFields) (done new : List EarlierFrame) (read : FrameRead) → HaveRead parts n opened left done → left ≡ f ∷ rest
      → KeepsFrameRulesBy v n f → IsReadOf f read → (opened ≡ true → is_open f ≡ true → ⊥) → new ≡ done ++ record { part = f; read = read } ∷ [] → HaveRead parts (n + 1) (opened || is_open f) rest new
  one_read parts n opened f rest left done new read h is keeps of not_both pushed =
      let k : EarlierFrame = record { part = f; read = read } in
      let more = either_open opened (is_open f) not_both in
      let own = split_one v n f keeps in
      let K : List FrameFields → Type 0 = LeftKeep n opened in
      record {
        on = λ keep. h.on (subst K (sym is) (record { each = (own.0, keep.each); whole = (own.1, keep.whole); open_one = omega (arith, keep.open_one, more, count_more f rest) }));
        back = λ keep. let was : LeftKeep n opened (f ∷ rest) = subst K is (h.back keep) in
            record { each = was.each.1; whole = was.whole.1; open_one = omega (arith, was.open_one, more, count_more f rest) };
        count = let all : length left ≡ suc (length rest) = ap length is in omega (arith, h.count, all);
        read = λ others are.
            let A : List EarlierFrame → Type 0 = AreFramesOf parts in
            let L : List FrameFields → Type 0 = λ l. AreFramesOf l (k ∷ others) in
            subst A (sym (append_assoc done (k ∷ []) others) ∙ ap (λ (d : List EarlierFrame). d ++ others) (sym pushed)) (h.read (k ∷ others) (subst L (sym is) ((refl, of), are)));
      }

  at_most : (opened : Bool) → cond {A = ℕ} opened 1 0 + 0 ≤ 1
  at_most true = omega arith
  at_most false = omega arith

  -- all frames were read
  pub all_keep : (parts : List FrameFields) (n : ℕ) (opened : Bool) (left : List FrameFields) (done : List EarlierFrame) → HaveRead parts n opened left done → left ≡ [] → KeepFrameRulesBy v parts
  all_keep parts n opened left done h none = h.on (subst (LeftKeep n opened) (sym none) (record { each = tt; whole = tt; open_one = at_most opened }))

  pub all_read : (parts : List FrameFields) (n : ℕ) (opened : Bool) (left : List FrameFields) (done : List EarlierFrame) → HaveRead parts n opened left done → left ≡ [] → AreFramesOf parts done
  all_read parts n opened left done h none =
      let A : List EarlierFrame → Type 0 = AreFramesOf parts in
      let L : List FrameFields → Type 0 = λ l. AreFramesOf l [] in
      subst A (append-nil done) (h.read [] (subst L (sym none) tt))
