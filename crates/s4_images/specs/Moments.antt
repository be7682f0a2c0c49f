-- The moment and the object that a command asks for.
use Rattle.std.specs.Prelude.{◌≡◌, ◌≢◌, ◌⊎◌, ℕ, ◌<◌, ◌≤◌, ◌^◌, List, Option, Some, None, unwrap_or}
use Rattle.object_map.specs.Rows.{row_of}
use Rattle.s4_model.specs.State.{State}
use Rattle.s4_model.specs.Visible.{IsVisible}
use Rattle.version_store.specs.Store.{StoreFields}
use Rattle.history_view.specs.Names.{IsNameRefusal, IsOnlyNamed}
use Rattle.history_view.specs.declared.names.NameRefusal.TheVariants.{NotNamed}
use Rattle.moment_words.specs.Words.{moment_of}
use Rattle.moment_words.specs.declared.words.MomentWord.{MomentWord}
use Rattle.moment_words.specs.declared.printing.MomentStyle.TheVariants.{Number}
use Rattle.s4_images.specs.Failures.{shown_by}
use Rattle.s4_images.specs.declared.faults.Failure.{Failure}
use Rattle.s4_images.specs.declared.faults.Failure.TheVariants.{Future, NoTimes, Unreadable}

-- the moment that a word says, by the clock; a number above every moment where it says none
abbrev pub moment_said : State → MomentWord → ℕ
moment_said s word = unwrap_or (moment_of word s.clock) (2 ^ 64)

-- There is a word, and it says no moment: it is a time, and the moments are numbers.
abbrev pub HasNoMoment : State → Option MomentWord → Type 0
HasNoMoment s None = ⊥
HasNoMoment s (Some word) = moment_of word s.clock ≡ None

-- the moment that is asked for, if one is
abbrev pub moment_given : State → Option MomentWord → Option ℕ
moment_given s None = None
moment_given s (Some word) = Some (moment_said s word)

-- the moment that is asked for, and the clock's where none is
abbrev pub moment_asked : State → Option MomentWord → ℕ
moment_asked s None = s.clock
moment_asked s (Some word) = moment_said s word

-- A failure tells that a moment isn't to be read since it is hidden or expired, and which one of the object is the first that can be read.
pub record TellsEarliest (s : State) (o t : ℕ) (failure : Failure) : Type 0 where
  pub earliest : ℕ
  pub visible : IsVisible s o earliest
  pub first : (u : ℕ) → u < earliest → IsVisible s o u → ⊥
  pub is : failure ≡ Unreadable (shown_by Number t) (shown_by Number earliest)

-- A failure tells why a moment of an object isn't to be read: it is to come, and the clock is there; or it is hidden or expired.
pub record TellsUnreadable (s : State) (o t : ℕ) (failure : Failure) : Type 0 where
  pub future : s.clock < t → failure ≡ Future (shown_by Number t) (shown_by Number s.clock)
  pub past : t ≤ s.clock → TellsEarliest s o t failure

-- A moment of an object can't be read, and a failure tells why.
pub record IsUnreadable (s : State) (o t : ℕ) (failure : Failure) : Type 0 where
  pub hidden : IsVisible s o t → ⊥
  pub told : TellsUnreadable s o t failure

-- A word says no moment since the moments are numbers, and a failure has the first and the last of these.
abbrev pub IsTimeRefused : State → Option MomentWord → Failure → Type 0
IsTimeRefused s word failure = HasNoMoment s word × (failure ≡ NoTimes (shown_by Number s.floor) (shown_by Number s.clock))

-- The moment that is asked for of an object is refused: its word says none, or it can't be read.
abbrev pub IsRefusedAt : State → ℕ → Option MomentWord → Failure → Type 0
IsRefusedAt s o at failure = IsTimeRefused s at failure ⊎ IsUnreadable s o (moment_asked s at) failure

-- The object that is asked for at a moment: the one of this number, which has a row, or else the one of this name then. None where neither
-- is given.
abbrev pub IsObjectAsked : State → StoreFields → Option ℕ → Option (List ℕ) → ℕ → Option ℕ → Type 0
IsObjectAsked s store (Some o) name at found = (row_of store.rows o ≢ None) × (found ≡ Some o)
IsObjectAsked s store None (Some name) at found = (o : ℕ) × IsOnlyNamed s store name at o × (found ≡ Some o)
IsObjectAsked s store None None at found = found ≡ None

-- An object is the one of a name at the first of two moments, or where none has it then, at the second.
abbrev pub IsNamedInEither : State → StoreFields → List ℕ → (first second : ℕ) → ℕ → Type 0
IsNamedInEither s store name first second o =
    IsOnlyNamed s store name first o ⊎ (IsNameRefusal s store name first NotNamed × IsOnlyNamed s store name second o)

-- The object that is asked for of two moments: the one of this number, which has a row, or else the one of this name at the first of them,
-- or where none has it then, at the second. None where neither is given.
abbrev pub IsObjectInEither : State → StoreFields → Option ℕ → Option (List ℕ) → (first second : ℕ) → Option ℕ → Type 0
IsObjectInEither s store (Some o) name first second found = (row_of store.rows o ≢ None) × (found ≡ Some o)
IsObjectInEither s store None (Some name) first second found = (o : ℕ) × IsNamedInEither s store name first second o × (found ≡ Some o)
IsObjectInEither s store None None first second found = found ≡ None
