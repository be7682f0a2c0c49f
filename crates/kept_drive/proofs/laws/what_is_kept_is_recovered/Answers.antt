use Rattle.kept_drive.proofs.laws.what_is_kept_is_recovered.Goals as goal

pub returns : goal.returns
returns c = record {
  whole = λ base changes clock bytes keeps. keeps.image.whole;
  goes_on = λ base changes clock bytes begun keeps told. record {
    history = keeps.history;
    begins = keeps.begins;
    took = keeps.took;
    came_to = keeps.came_to;
    sound = keeps.sound;
    goes_on = keeps.image.goes_on begun told;
  };
}
