-- Lemmas about options.
use Rattle.std.proofs.Common.{◌≡◌, Option, Some, None, IsSome, IfSome, IfNone, is_some, refl, sym, ap, ◌∙◌}
use Rattle.std.proofs.lemmas.Bool.{false≢true}

-- the value that is there
pub value_there : {A : Type 0} (o : Option A) → IsSome o → (x : A) × (o ≡ Some x)
value_there None some = absurd (false≢true some)
value_there (Some x) some = (x, refl)

pub none_not_some : {A : Type 0} (o : Option A) → o ≡ None → IsSome o → ⊥
none_not_some o none some = false≢true (sym (ap is_some none) ∙ some)

pub some_not_none : {A P : Type 0} (x : A) (o : Option A) → o ≡ Some x → o ≡ None → P
some_not_none x o some none = absurd (false≢true (sym (ap is_some none) ∙ ap is_some some))

pub one_value : {A : Type 0} (x y : A) (o : Option A) → o ≡ Some x → o ≡ Some y → y ≡ x
one_value x y o is other = (let same : ◌≡◌ {A = Option _} (Some y) (Some x) = sym other ∙ is in cc)

-- what holds of each value that the option may have
pub IfSome_from : {A : Type 0} (o : Option A) (P : A → Type 0) → ((x : A) → o ≡ Some x → P x) → IfSome o P
IfSome_from None P each = tt
IfSome_from (Some x) P each = each x refl

pub IfNone_weaker : {A : Type 0} (o : Option A) (P Q : Type 0) → IfNone o P → (P → Q) → IfNone o Q
IfNone_weaker None P Q h f = f h
IfNone_weaker (Some x) P Q h f = tt

-- what stays where it is there, and isn't there after, wasn't there before
pub none_before : {A : Type 0} (before after : Option A) → (IsSome before → after ≡ before) → after ≡ None → before ≡ None
none_before None after stays none = refl
none_before (Some x) after stays none = sym (stays refl) ∙ none
