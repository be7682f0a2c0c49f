use Rattle.std.proofs.Common.{rules, ◌≡◌, ◌∙◌, ◌≤◌, ◌+◌, ◌++◌, List, ℕ, Some, sym, subst, arith}
use Rattle.std.proofs.lemmas.Result.{err_from_is_err_and}
use Rattle.s4_types.specs.declared.limits.TheConstants.{OBJECT_BYTES, READ_BYTES}
use Rattle.s4_types.specs.declared.replies.Reply.TheVariants.{Data}
use Rattle.s4_types.specs.declared.versions.Version.TheVariants.{Live}
use Rattle.s4_model.specs.State.{State}
use Rattle.s4_model.specs.Step.{data_of}
use Rattle.s4_model.specs.VersionAt.{version_of}
use Rattle.drive.specs.Fields.{state_in, store_of}
use Rattle.history_view.proofs.Read.{inode_is_small, left_open, reads_join, version_is_read}
use Rattle.history_view.proofs.versions.read_whole.Goals as goal

pub returns-in_err-piece-clause-refused : goal.returns-in_err-piece-clause-refused
returns-in_err-piece-clause-refused g c =
    let p = err_from_is_err_and c.from_residual-in_err-piece.result c.from_residual-in_err-piece.ensures.1 in
    let store = store_of c.args.drive.now in
    let o = c.args.object in
    let t = c.args.at in
    let i = c.args.inode.now in
    let within : c.loop-offset.offset ≤ OBJECT_BYTES = omega (arith, c.loop-offset-test.true, c.from.ensures, inode_is_small store o t i c.rules.ensures.store c.requires.there) in
    rw (p.1, p.2) (left_open (state_in c.args.drive.now) (state_in c.loop-offset.drive) store c.loop-offset.session.role o t c.loop-offset.offset i _ c.rules.ensures.decodes c.requires.visible c.requires.there c.requires.alive
    c.loop-offset.invariant.state within c.in_err-piece.ensures.refused)

pub overflow_add-offset : goal.overflow_add-offset
overflow_add-offset g c =
    omega (arith, c.loop-offset-test.true, c.from.ensures, inode_is_small (store_of c.args.drive.now) c.args.object c.args.at c.args.inode.now c.rules.ensures.store c.requires.there)

pub loop-offset-preserved : goal.loop-offset-preserved
loop-offset-preserved g c =
    let v = version_of (state_in c.args.drive.now) c.args.object c.args.at in
    let read : data_of v c.loop-offset.offset READ_BYTES ≡ Some (Data c.in_ok-piece.piece) =
    subst (λ (s : State). data_of (version_of s c.args.object c.args.at) c.loop-offset.offset READ_BYTES ≡ Some (Data c.in_ok-piece.piece)) c.loop-offset.invariant.state c.in_ok-piece.ensures.read in
    let both = reads_join v c.loop-offset.offset READ_BYTES c.loop-offset.bytes.items c.in_ok-piece.piece c.loop-offset.invariant.read read in
    let grown : c.loop-offset.bytes.items ++ c.in_ok-piece.piece ≡ c.extend_from_slice.new.self.items = search rules in
    record {
      read = subst (λ (b : List ℕ). data_of v 0 (c.loop-offset.offset + READ_BYTES) ≡ Some (Data b)) grown both;
      state = c.in_ok-piece.ensures.state ∙ c.loop-offset.invariant.state;
      store = c.in_ok-piece.ensures.store ∙ c.loop-offset.invariant.store;
    }

pub returns-clause-whole : goal.returns-clause-whole
returns-clause-whole g c =
    let i = c.args.inode.now in
    let whole : i.size ≤ c.loop-offset.offset = omega (arith, c.loop-offset-test.false, c.from.ensures) in
    subst (λ (b : List ℕ). Live b i.attribute i.created i.changed ≡ version_of (state_in c.args.drive.now) c.args.object c.args.at) (sym c.from_vec.ensures)
    (version_is_read (state_in c.args.drive.now) (store_of c.args.drive.now) c.args.object c.args.at c.loop-offset.offset i c.loop-offset.bytes.items
    c.rules.ensures.decodes c.requires.visible c.requires.there c.requires.alive whole c.loop-offset.invariant.read)
