-- The form in which rows are printed.
use Rattle.std.specs.Prelude.{Bool}
use Rattle.s4_model.specs.State.{State}
use Rattle.moment_words.specs.Texts.{style_of}
use Rattle.s4_reading.specs.declared.forms.Form.{Form}

-- the form by the clock, where moments are asked for as numbers or not, and lines for programs or not
abbrev pub form_over : State → Bool → Bool → Form
form_over s as_numbers json = record { style = style_of s.clock as_numbers; json = json }
