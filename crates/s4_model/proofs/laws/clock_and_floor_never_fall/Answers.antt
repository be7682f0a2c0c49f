use Rattle.s4_types.specs.declared.requests.Request.TheVariants.{Control}
use Rattle.s4_types.specs.declared.requests.AdminRequest.TheVariants.{SetWindow}
use Rattle.s4_model.proofs.ClockLaws.{clock_never_falls, floor_never_falls, accepted_is_later, clock_is_visible}
use Rattle.s4_model.proofs.SoundLemmas.{IsSound-leads}
use Rattle.s4_model.proofs.laws.clock_and_floor_never_fall.Goals as goal

pub returns : goal.returns
returns c = record {
  clock = clock_never_falls;
  floor = floor_never_falls;
  windows = λ h after role window. floor_never_falls h after role (Control (SetWindow window));
  later = accepted_is_later;
  ascend = λ h after exchanges sound leads. (IsSound-leads h exchanges after sound leads).stamped;
  present = clock_is_visible;
}
