use Rattle.image_objects.proofs.Firsts.{entries_given, bytes_given, first_left, bytes_of_all}
use Rattle.image_objects.proofs.reading.take_entries.Goals as goal

pub loop-entry-preserved : goal.loop-entry-preserved
loop-entry-preserved c =
    let rest = c.loop-entry.rest.entries in
    let given = c.pop.new.self.entries in
    let e = c.in-Some.entry in
    record {
      entries = entries_given rest given c.loop-entry.entries.items c.push.new.self.items _ e c.in-Some.ensures.entries c.in_ok-push.ensures.items c.loop-entry.invariant.entries;
      all = bytes_given c.args.version rest given e c.loop-entry.all c.byte_count_by-first.result _ c.in-Some.ensures.entries c.byte_count_by-first.ensures.exact c.loop-entry.invariant.all;
      first = first_left c.args.version rest given e c.byte_count_by-first.result c.loop-entry.first _ c.in-Some.ensures.entries c.byte_count_by-first.ensures.exact c.loop-entry.invariant.first;
      few = c.loop-entry.invariant.few;
    }

pub returns-clause-all : goal.returns-clause-all
returns-clause-all c = bytes_of_all c.args.version c.loop-entry.rest.entries c.loop-entry.all _ c.in_default.ensures.end c.loop-entry.invariant.all
