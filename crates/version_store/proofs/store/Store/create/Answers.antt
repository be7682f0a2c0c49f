use Rattle.std.proofs.Common.{ℕ, List, [], refl, sym, ap, subst, ◌∙◌, arith}
use Rattle.s4_types.specs.declared.changes.Change.TheVariants.{Create}
use Rattle.s4_model.specs.Effect.{effect}
use Rattle.inode.specs.Contents.{contents_of, meaning}
use Rattle.version_store.specs.Store.{StoreFields, fields_of}
use Rattle.version_store.specs.private.Turning.{CanTurn, Turns, blocks_turned}
use Rattle.version_store.proofs.Kind.{can_create, bytes_made, created_taken}
use Rattle.version_store.proofs.Touched.{same_created}
use Rattle.version_store.proofs.Making.{created_makes, subject_made}
use Rattle.version_store.proofs.store.Store.create.Goals as goal

pub turn-requires : goal.turn-requires
turn-requires g c =
    let s : StoreFields = fields_of g.B.Blocks.log c.args.self.now in
    let makes = created_makes c.requires.laws.fresh_inode c.requires.laws.blank_count c.requires.laws.blank_holes s c.args.object c.args.moment c.args.attribute.now c.args.plan.now.inode.now c.created-after.result c.requires.can
    c.created-after.ensures.alive c.created-after.ensures.size c.created-after.ensures.made c.created-after.ensures.changed (c.created-after.ensures.attribute ∙ c.attribute_of-attribute.ensures) c.created-after.ensures.holes
    (c.created-after.ensures.meaning (contents_of s.log.held) c.args.object (meaning (contents_of s.log.held) c.args.plan.now.inode.now) ∙ ap (λ (a : List ℕ). effect (Create c.args.object a) c.args.moment (meaning (contents_of s.log.held) c.args.plan.now.inode.now)) c.attribute_of-attribute.ensures)
    (c.created-after.ensures.tidy (contents_of s.log.held)) in
    record {
      laws = c.requires.laws;
      can = subst (λ (v : StoreFields). CanTurn v c.args.object c.args.plan.now.inode.now c.created-after.result [] c.args.moment) (sym c.in_ok-add_object.ensures.same)
          (can_create c.requires.laws.fresh_row c.requires.laws.fresh_latest c.requires.laws.fresh_inode c.requires.laws.later c.requires.laws.blank_count c.requires.laws.blank_holes c.requires.laws.entry_sizes c.requires.laws.sizes_add_up
          s (Create c.args.object c.args.attribute.now) c.args.moment c.add_object.new.self.rows c.args.plan.now.inode.now c.created-after.result c.requires.can c.requires.can.takes.ready makes refl c.in_ok-add_object.ensures.added);
      row = subject_made s c.add_object.new.self.rows c.args.object c.args.moment c.args.plan.now.row.now c.requires.can.takes.ready c.in_ok-add_object.ensures.added c.requires.row;
      bytes = bytes_made c.requires.laws.entry_sizes c.requires.laws.sizes_add_up s (Create c.args.object c.args.attribute.now) c.args.moment c.args.plan.now.inode.now s.log c.created-after.result c.args.plan.now.bytes makes c.requires.bytes;
      range = (omega arith, omega arith);
      same = same_created c.requires.laws.fresh_inode c.requires.laws.blank_holes s c.args.object c.args.moment c.args.attribute.now c.args.plan.now.inode.now c.created-after.result c.requires.can c.created-after.ensures.holes;
    }

pub returns-clause-taken : goal.returns-clause-taken
returns-clause-taken g c =
    let s : StoreFields = fields_of g.B.Blocks.log c.args.self.now in
    let makes = created_makes c.requires.laws.fresh_inode c.requires.laws.blank_count c.requires.laws.blank_holes s c.args.object c.args.moment c.args.attribute.now c.args.plan.now.inode.now c.created-after.result c.requires.can
    c.created-after.ensures.alive c.created-after.ensures.size c.created-after.ensures.made c.created-after.ensures.changed (c.created-after.ensures.attribute ∙ c.attribute_of-attribute.ensures) c.created-after.ensures.holes
    (c.created-after.ensures.meaning (contents_of s.log.held) c.args.object (meaning (contents_of s.log.held) c.args.plan.now.inode.now) ∙ ap (λ (a : List ℕ). effect (Create c.args.object a) c.args.moment (meaning (contents_of s.log.held) c.args.plan.now.inode.now)) c.attribute_of-attribute.ensures)
    (c.created-after.ensures.tidy (contents_of s.log.held)) in
    let later : StoreFields = fields_of g.B.Blocks.log c.turn.new.self in
    let turns = subst (λ (v : StoreFields). Turns v c.args.object c.args.moment c.created-after.result (blocks_turned v c.args.object c.args.plan.now.inode.now c.created-after.result c.args.moment) later) c.in_ok-add_object.ensures.same c.turn.ensures in
    created_taken c.requires.laws.fresh_inode c.requires.laws.entry_sizes
    s later (Create c.args.object c.args.attribute.now) c.args.moment c.add_object.new.self.rows c.args.plan.now.inode.now c.created-after.result c.requires.can c.requires.can.takes.ready makes refl c.in_ok-add_object.ensures.added refl turns
