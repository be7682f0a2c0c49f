-- A creation is a chain, a chain goes on by further entries, and one up to a moment is one up to a later moment.
use Rattle.std.proofs.Common.{◌≡◌, ℕ, ◌≤◌, true, false, List, [], ◌∷◌, ◌++◌, length, refl, sym, ap, subst, ◌∙◌, arith}
use Rattle.std.proofs.Math.Seq.{take-append_seam, take-length}
use Rattle.std.specs.List.{AllByRecursion}
use Rattle.std.proofs.lemmas.Bool.{both_ways}
use Rattle.codec.specs.declared.inodes.Inode.{Inode}
use Rattle.codec.specs.Entry.{EntryFields, entry_rules}
use Rattle.undo_redo.specs.Redone.{redone}
use Rattle.undo_redo.specs.Runs.{Run, redone_all, AllAt, blank}
use Rattle.undo_redo.specs.Groups.{grouped}
use Rattle.undo_redo.specs.Between.{entries_between}
use Rattle.time_read.specs.Orderly.{IsFromTo, inode_behind}
use Rattle.time_read.proofs.Ordering.{from_to_later, moments_later, all_by_last}
use Rattle.chain_rewriting.specs.Chains.{IsChain}
use Rattle.chain_rewriting.specs.CleaningLaws.{ACreationIsAChain, AChainGoesOn, AChainIsOneLater}
use Rattle.chain_rewriting.proofs.Leading.{Onward, begun}
use Rattle.chain_rewriting.proofs.Grouped.{BetweenGroups, GroupsJoin, at_past}
use Rattle.chain_rewriting.proofs.Ordered.{Live, LaterLive, BetweenRules, BetweenSome, join_all, join_later, group_live, begin_live, all_changed, all_between, some_live, begun_of}
use Rattle.chain_rewriting.proofs.Runs.{RunsJoin}
use Rattle.chain_rewriting.specs.private.Resting.{AllOfOne, BetweenRuns, Ends, Redoes}

-- the laws of the layer below
pub record Facts : Type 0 where
  pub redoes : Redoes
  pub ends : Ends
  pub one : AllOfOne
  pub run : BetweenRuns
  pub group : BetweenGroups
  pub rules : BetweenRules
  pub some : BetweenSome

-- ---- moments

pub all_of_one : (c m : ℕ) (entries : List EntryFields) → c ≤ m → AllAt m entries → AllByRecursion (λ e. IsFromTo c m e.moment) entries
all_of_one c m [] le h = tt
all_of_one c m (e ∷ entries) le h = (let is : e.moment ≡ m = h.0 in ((omega (arith, is, le), omega (arith, is)), all_of_one c m entries le h.1))

pub one_later : AChainIsOneLater
one_later c latest later first entries h le = record {
  run = h.run;
  groups = h.groups;
  rules = h.rules;
  order = record {
    moments = moments_later c latest later entries le h.order.moments;
    changed = λ n live. from_to_later c latest later (inode_behind first entries n).changed le (h.order.changed n live);
    between = h.order.between;
    beginning = h.order.beginning;
    live = h.order.live;
  };
}

-- ---- a creation

pub blank_dead : (m : ℕ) → (blank m).alive ≡ false
unfolding blank
blank_dead m = refl

pub creation : Facts → ACreationIsAChain
creation f m made lead live =
    let entries : List EntryFields = entries_between (blank m) made m in
    let run : Run (blank m) entries made = f.run (blank m) made m lead in
    let at : AllAt m entries = f.one (blank m) made m in
    let groups : grouped entries ≡ true = f.group (blank m) made m lead in
    let ruled = f.rules (blank m) made m lead in
    let moments = all_of_one m m entries (omega arith) at in
    record {
      run = subst (λ (j : Inode). Run (blank m) entries j) (f.ends (blank m) made entries run) run;
      groups = groups;
      rules = ruled;
      order = record {
        moments = moments;
        changed = all_changed m m (blank m) entries (λ is. absurd (both_ways (blank m).alive (blank_dead m) is)) ruled moments;
        between = all_between f.redoes (blank m) made entries run (group_live m entries at groups);
        beginning = λ dead. refl;
        live = some_live (blank m) made entries run ruled (blank_dead m) (begun_of entries (f.some (blank m) made m));
      };
    }

-- ---- a chain that goes on

onward_live : (i : Inode) (entries : List EntryFields) → Onward i entries → Live entries
onward_live i [] h = tt
onward_live i (e ∷ entries) h = (sym (ap (λ s. s.alive) h.1.status_before) ∙ h.0, onward_live (redone e i) entries h.3)

later_live : Redoes → (c latest : ℕ) (first : Inode) (entries : List EntryFields) → IsChain c latest first entries → LaterLive entries
later_live redoes c latest first [] h = tt
later_live redoes c latest first (e ∷ entries) h = onward_live (redone e first) entries (begun redoes c latest first e entries h).1

-- the inode after all entries of the front
behind_front : (i : Inode) (front back : List EntryFields) → inode_behind i (front ++ back) (length front) ≡ redone_all front i
behind_front i front back = ap (λ (es : List EntryFields). redone_all es i) (take-append_seam front back)

behind_all : (i : Inode) (entries : List EntryFields) → inode_behind i entries (length entries) ≡ redone_all entries i
behind_all i entries = ap (λ (es : List EntryFields). redone_all es i) (take-length entries)

pub goes_on : Facts → RunsJoin → GroupsJoin → AChainGoesOn
goes_on f join groups c latest m first next entries h live lt lead =
    let last : Inode = redone_all entries first in
    let back : List EntryFields = entries_between last next m in
    let all : List EntryFields = entries ++ back in
    let back_run : Run last back next = f.run last next m lead in
    let at : AllAt m back = f.one last next m in
    let group : grouped back ≡ true = f.group last next m lead in
    let run : Run first all next = join first last next entries back h.run back_run in
    let ruled = join_all (λ e. entry_rules e ≡ true) entries back h.rules (f.rules last next m lead) in
    let changed = h.order.changed (length entries) (ap (λ (j : Inode). j.alive) (behind_all first entries) ∙ live) in
    let low : c ≤ (inode_behind first entries (length entries)).changed = changed.0 in
    let high : (inode_behind first entries (length entries)).changed ≤ latest = changed.1 in
    let moments = join_all (λ e. IsFromTo c m e.moment) entries back (moments_later c latest m entries (omega (arith, lt)) h.order.moments) (all_of_one c m back (omega (arith, low, high, lt)) at) in
    record {
      run = subst (λ (j : Inode). Run first all j) (f.ends first next all run) run;
      groups = groups latest entries back h.groups group (all_by_last c latest entries h.order.moments) (at_past latest m back lt at);
      rules = ruled;
      order = record {
        moments = moments;
        changed = all_changed c m first all (λ is. from_to_later c latest m first.changed (omega (arith, lt)) (h.order.changed 0 is)) ruled moments;
        between = all_between f.redoes first next all run (join_later entries back (later_live f.redoes c latest first entries h) (begin_live last next back back_run live (group_live m back at group)));
        beginning = h.order.beginning;
        live = (length entries, ap (λ (j : Inode). j.alive) (behind_front first entries back) ∙ live);
      };
    }
