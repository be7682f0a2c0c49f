use Rattle.std.proofs.Common.{◌≡◌, ◌<◌, ℕ, List, Option, [], length, set, sym, ap, subst, ◌∙◌}
use Rattle.s4_types.specs.Pointer.{Place}
use Rattle.segment_word.specs.Frames.{Free, Open}
use Rattle.segment_word.specs.FrameStates.{phase_in}
use Rattle.segment_word.specs.Layout.{frame_at}
use Rattle.segment_table.specs.declared.slots.Slot.{Slot}
use Rattle.segment_table.specs.Slots.{unheld}
use Rattle.segment_table.specs.Table.{Table, held_at}
use Rattle.segment_table.specs.Room.{is_filling, numbers}
use Rattle.segment_table.specs.Building.{unnamed, IsSoundToBuild}
use Rattle.segment_table.proofs.BuilderSteps.{AreUsed, used_builder}
use Rattle.segment_table.proofs.builder.TableBuilder.set_used.Goals.{After-unheld}
use Rattle.segment_table.proofs.builder.TableBuilder.set_used.Goals as goal

-- the frame is used, and no block of it is held
used : (c : After-unheld) → AreUsed c.self.inside.words c.set_state.new.self c.self.inside.slots.items c.args.frame (phase_in c.args.state) c.self.inside.current c.args.summary.now.roles
used c =
    let f : ℕ = c.args.frame in
    let I : Table → Type 0 = λ t. f < length t.seat.frames in
    let F : Table → Type 0 = λ t. (frame_at t.seat.frames f).phase ≡ Free in
    let N : Table → Type 0 = λ t. phase_in c.args.state ≡ Open → numbers is_filling 0 t.seat.frames ≡ [] in
    used_builder c.self.inside.words c.store_all.new.words c.set_state.new.self c.self.inside.slots.items f c.generation.result (phase_in c.args.state) c.self.inside.current c.args.summary.now c.args.blocks.now c.self.invariant
    (subst I (sym c.self.view_is) c.requires.inside) (subst F (sym c.self.view_is) c.requires.free) c.store_all.ensures c.set_state.ensures c.generation.ensures.generation
    ((c.a_summary_has_one_encoding.ensures.rules c.args.summary.now).0 c.roles.ensures.rules) c.requires.number c.requires.spelled c.told-blocks c.requires.state c.requires.room (subst N (sym c.self.view_is) c.requires.one_open)

-- its slots are those of its summary
slots : (c : After-unheld) → c.unheld.result ≡ unheld c.args.summary.now.roles
slots c = c.unheld.ensures ∙ ap unheld c.roles.ensures.roles

pub invariant_of-self : goal.invariant_of-self
invariant_of-self c =
    let at = (goal.at.invariant_of-self c).After-unheld in
    let S : List Slot → Type 0 = λ l. IsSoundToBuild (unnamed c.set_state.new.self (set c.self.inside.slots.items c.args.frame l)) c.open_after-self-inside.result in
    let O : Option ℕ → Type 0 = λ o. IsSoundToBuild (unnamed c.set_state.new.self (set c.self.inside.slots.items c.args.frame (unheld c.args.summary.now.roles))) o in
    subst S (sym (slots at)) (subst O (sym c.open_after-self-inside.ensures) (used at).sound)

pub returns-clause-alone : goal.returns-clause-alone
returns-clause-alone c =
    let A : Table → Type 0 = λ t. c.set_state.new.self ≡ set t.seat.frames c.args.frame (frame_at c.set_state.new.self c.args.frame) in
    subst A c.self.view_is (used (goal.at.returns-clause-alone c).After-unheld).alone

pub returns-clause-held : goal.returns-clause-held
returns-clause-held c =
    let at = (goal.at.returns-clause-held c).After-unheld in
    let S : List Slot → Type 0 = λ l. (q : Place) → held_at (unnamed c.set_state.new.self (set c.self.inside.slots.items c.args.frame l)) q ≡ held_at (unnamed c.self.inside.words c.self.inside.slots.items) q in
    let T : Table → Type 0 = λ t. (q : Place) → held_at (unnamed c.set_state.new.self (set c.self.inside.slots.items c.args.frame c.unheld.result)) q ≡ held_at t q in
    subst T c.self.view_is (subst S (sym (slots at)) (used at).held)
