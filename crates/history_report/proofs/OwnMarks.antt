-- Which changes have marks of their own.
use Rattle.std.proofs.Common.{◌≡◌, List, refl}
use Rattle.history_view.specs.declared.changes.Kind.{Kind}
use Rattle.history_view.specs.declared.changes.Kind.TheVariants.{Made, Deleted, Continued, Attribute, Cut, Written, Lengthened, Touched}
use Rattle.history_report.specs.Page.{Part}
use Rattle.history_report.specs.Timeline.{marks_by}

-- all but those that go on with the change before them
pub own_mark : (kind : Kind) (mark : List Part) → (kind ≡ Continued → ⊥) → marks_by kind mark ≡ mark
own_mark Made mark own = refl
own_mark Deleted mark own = refl
own_mark Continued mark own = absurd (own refl)
own_mark Attribute mark own = refl
own_mark Cut mark own = refl
own_mark Written mark own = refl
own_mark Lengthened mark own = refl
own_mark Touched mark own = refl
