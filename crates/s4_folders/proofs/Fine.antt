-- What a verdict says.
use Rattle.std.proofs.Common.{◌≡◌, Bool, true, false, if◌then◌else◌, refl}
use Rattle.image_salvage.specs.declared.giving.GivenOut.{GivenOut}
use Rattle.image_salvage.specs.Giving.{is_whole}
use Rattle.s4_images.specs.declared.commands.Verdict.TheVariants.{Fine, Differs}
use Rattle.s4_folders.specs.Salvaging.{verdict_of}

fine_by : (b : Bool) → (if b then Fine else Differs) ≡ Fine → b ≡ true
fine_by true fine = refl
fine_by false fine = absurd (let clash : Differs ≡ Fine = fine in cc)

-- all is fine where nothing is lost
pub fine_is_whole : (g : GivenOut) → verdict_of g ≡ Fine → is_whole g ≡ true
fine_is_whole g fine = fine_by (is_whole g) fine
