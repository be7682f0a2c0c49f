use Rattle.std.proofs.Common.{◌≡◌, Bool, Option, Some, None, refl, sym, ap, ◌∙◌}
use Rattle.std.specs.Prelude.{option_map}
use Rattle.block_log.specs.Log.{Stored, same_kind}
use Rattle.block_log.specs.declared.kinds.BlockKind.TheVariants.{Data}
use Rattle.codec.specs.declared.summaries.BlockRole.{BlockRole}
use Rattle.segment_table.specs.Table.{held_at, role_of}
use Rattle.segment_copier.specs.Moves.{is_data}
use Rattle.drive_compaction.proofs.holding.is_data_at.Goals as goal

-- what a held block is for says whether it is of data
by_role : (held : Option Stored) (role : BlockRole) (is : Bool) → option_map role_of held ≡ Some role → is ≡ same_kind Data role.kind → is ≡ is_data held
by_role None role is e same = absurd (cc)
by_role (Some block) role is e same =
    let parts : role_of block ≡ role = cc in
    same ∙ sym (ap (λ (p : BlockRole). same_kind Data p.kind) parts)

none_held : (held : Option Stored) → option_map role_of held ≡ None → is_data None ≡ is_data held
none_held None e = refl
none_held (Some block) e = absurd (cc)

pub returns-in-Some-clause-data : goal.returns-in-Some-clause-data
returns-in-Some-clause-data g c = by_role (held_at c.args.drive.now.store.table c.args.place) c.in-Some.role c.is_of_data.result (sym c.role.ensures.role ∙ c.in-Some.is) c.is_of_data.ensures

pub returns-in-None-clause-data : goal.returns-in-None-clause-data
returns-in-None-clause-data g c = none_held (held_at c.args.drive.now.store.table c.args.place) (sym c.role.ensures.role ∙ c.in-None.is)
