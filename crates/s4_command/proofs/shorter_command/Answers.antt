use Rattle.std.proofs.Common.{codes, sym}
use Rattle.clap.specs.Walk.{rows_of}
use Rattle.clap.specs.Matches.{found_of}
use Rattle.s4_command.proofs.Absent.{none_named}
use Rattle.s4_command.proofs.shorter_command.Goals as goal

pub returns-in-info-clause-usage : goal.returns-in-info-clause-usage
returns-in-info-clause-usage c =
    none_named c.info_asked.result c.args.now (codes "info") c.args.name.now (codes "restore") (codes "copy") (rows_of (found_of c.args.found.now)) (sym c.in-info.is) c.info_asked.ensures.usage

pub returns-in-check-clause-usage : goal.returns-in-check-clause-usage
returns-in-check-clause-usage c =
    none_named c.check_asked.result c.args.now (codes "check") c.args.name.now (codes "restore") (codes "copy") (rows_of (found_of c.args.found.now)) (sym c.in-check.is) c.check_asked.ensures.usage

pub returns-in-compact-clause-usage : goal.returns-in-compact-clause-usage
returns-in-compact-clause-usage c =
    none_named c.compact_asked.result c.args.now (codes "compact") c.args.name.now (codes "restore") (codes "copy") (rows_of (found_of c.args.found.now)) (sym c.in-compact.is) c.compact_asked.ensures.usage

pub returns-in-salvage-clause-usage : goal.returns-in-salvage-clause-usage
returns-in-salvage-clause-usage c =
    none_named c.salvage_asked.result c.args.now (codes "salvage") c.args.name.now (codes "restore") (codes "copy") (rows_of (found_of c.args.found.now)) (sym c.in-salvage.is) c.salvage_asked.ensures.usage
