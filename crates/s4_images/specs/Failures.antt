-- What a failure is of, and how its moments are printed.
use Rattle.std.specs.Prelude.{◌≡◌, ⊤, ℕ, Bool, true, false}
use Rattle.moment_words.specs.declared.printing.MomentStyle.{MomentStyle}
use Rattle.moment_words.specs.declared.printing.ShownMoment.{ShownMoment}
use Rattle.s4_images.specs.declared.faults.Failure.{Failure}
use Rattle.s4_images.specs.declared.faults.Failure.TheVariants.{Future, NoTimes, Unreadable, NotThere, NotNamed, NotNamedInEither, NamedTwice, NoFolder, FolderNotEmpty, CannotExport}

-- whether it is of the folder that is written into, and not of the image
abbrev pub is_of_folder : Failure → Bool
is_of_folder NoFolder = true
is_of_folder FolderNotEmpty = true
is_of_folder (CannotExport file) = true
is_of_folder _ = false

-- a moment in a style
abbrev pub shown_by : MomentStyle → ℕ → ShownMoment
shown_by style moment = record { moment = moment; style = style }

-- the same moment in another style
abbrev pub restyled : MomentStyle → ShownMoment → ShownMoment
restyled style shown = shown_by style shown.moment

-- the same failure with its moments in a style
abbrev pub in_style : MomentStyle → Failure → Failure
in_style style (Future asked clock) = Future (restyled style asked) (restyled style clock)
in_style style (NoTimes first last) = NoTimes (restyled style first) (restyled style last)
in_style style (Unreadable asked earliest) = Unreadable (restyled style asked) (restyled style earliest)
in_style style (NotThere object moment) = NotThere object (restyled style moment)
in_style style (NotNamed moment) = NotNamed (restyled style moment)
in_style style (NotNamedInEither first second) = NotNamedInEither (restyled style first) (restyled style second)
in_style style (NamedTwice first second moment) = NamedTwice first second (restyled style moment)
in_style style failure = failure

-- All moments that a failure has are in a style.
abbrev pub IsInStyle : MomentStyle → Failure → Type 0
IsInStyle style (Future asked clock) = (asked.style ≡ style) × (clock.style ≡ style)
IsInStyle style (NoTimes first last) = (first.style ≡ style) × (last.style ≡ style)
IsInStyle style (Unreadable asked earliest) = (asked.style ≡ style) × (earliest.style ≡ style)
IsInStyle style (NotThere object moment) = moment.style ≡ style
IsInStyle style (NotNamed moment) = moment.style ≡ style
IsInStyle style (NotNamedInEither first second) = (first.style ≡ style) × (second.style ≡ style)
IsInStyle style (NamedTwice first second moment) = moment.style ≡ style
IsInStyle style failure = ⊤

-- A failure has no moments.
abbrev pub HasNoMoments : Failure → Type 0
HasNoMoments failure = (style : MomentStyle) → IsInStyle style failure
