use Rattle.std.proofs.Common.{ap, ◌∙◌}
use Rattle.s4_types.specs.declared.replies.Reply.TheVariants.{Attr}
use Rattle.drive.proofs.reads.AttributesReader.needed.Goals as goal

pub returns-clause-reads : goal.returns-clause-reads
returns-clause-reads g c = λ table reply i j small agrees is. (
  is.0
      ∙ ap (λ n. Attr n i.created i.changed i.attribute) agrees.size
      ∙ ap (λ n. Attr j.size n i.changed i.attribute) agrees.created
      ∙ ap (λ n. Attr j.size j.created n i.attribute) agrees.changed
      ∙ ap (λ bytes. Attr j.size j.created j.changed bytes) agrees.attribute,
  is.1,
)
