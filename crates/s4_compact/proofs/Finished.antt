-- What holds once a full pass followed a compaction, or none did.
use Rattle.std.proofs.Common.{◌≡◌, ◌∙◌, ◌≤◌, ap, sym, subst, arith}
use Rattle.std.specs.Prelude.{IsSome}
use Rattle.s4_types.specs.History.{History}
use Rattle.segment_word.specs.AcceptViews.{Ledger}
use Rattle.s4_model.specs.State.{State, state_of}
use Rattle.s4_model.specs.Promise.{IsCleanedUp}
use Rattle.block_log.specs.declared.kinds.BlockKind.TheVariants.{Data}
use Rattle.block_log.specs.Log.{of_kind}
use Rattle.version_store.specs.Costs.{room}
use Rattle.version_store.specs.Store.{StoreFields}
use Rattle.version_store.specs.Versions.{version_in}
use Rattle.drive.specs.Fields.{DriveFields, history_of, state_in, store_of}
use Rattle.drive.specs.Keeping.{KeepsVersions}
use Rattle.history_cleaner.specs.Reaching.{PointsTo}
use Rattle.drive_compaction.specs.Compacting.{blocks_left}
use Rattle.drive_compaction.specs.Passing.{HoldsWhatIsRead}
use Rattle.drive_compaction.specs.declared.compacting.Compaction.{Compaction}
use Rattle.drive_compaction.specs.declared.passing.FullPass.{FullPass}
use Rattle.drive_compaction.specs.declared.passing.FullPass.TheVariants.{Made, CostsRoom, Refused}
use Rattle.s4_compact.specs.Compacting.{Finishes}
use Rattle.s4_compact.specs.Ways.{IsCompactedBy}
use Rattle.s4_compact.specs.declared.ways.Way.{Way}
use Rattle.s4_compact.specs.declared.ways.Way.TheVariants.{Cleaning, Moves, MovesFirst}

-- ---- no less is left

-- once a drive was compacted
compacted_no_fewer : (way : Way) (d later : DriveFields) (report : Compaction) → IsCompactedBy way d later report → blocks_left (store_of d) ≤ blocks_left (store_of later)
compacted_no_fewer Cleaning d later report is = is.no_fewer
compacted_no_fewer Moves d later report is = is.no_fewer
compacted_no_fewer MovesFirst d later report is = (let first = is.moved.no_fewer in let second = is.cleaned.no_fewer in omega (arith, first, second))

compacted_more : (way : Way) (d later : DriveFields) (report : Compaction) → IsCompactedBy way d later report → room (store_of d) ≤ room (store_of later)
compacted_more Cleaning d later report is = is.more
compacted_more Moves d later report is = is.more
compacted_more MovesFirst d later report is = (let first = is.moved.more in let second = is.cleaned.more in omega (arith, first, second))

-- once the pass followed, or none did
finished_no_fewer : (pass : FullPass) (d later : DriveFields) → Finishes pass d later → blocks_left (store_of d) ≤ blocks_left (store_of later)
finished_no_fewer Made d later is = is.no_fewer
finished_no_fewer CostsRoom d later is = (let same = ap (λ (x : DriveFields). blocks_left (store_of x)) is in omega (arith, same))
finished_no_fewer Refused d later is = (let same = ap (λ (x : DriveFields). blocks_left (store_of x)) is in omega (arith, same))

finished_more : (pass : FullPass) (d later : DriveFields) → Finishes pass d later → room (store_of d) ≤ room (store_of later)
finished_more Made d later is = is.more
finished_more CostsRoom d later is = (let same = ap (λ (x : DriveFields). room (store_of x)) is in omega (arith, same))
finished_more Refused d later is = (let same = ap (λ (x : DriveFields). room (store_of x)) is in omega (arith, same))

-- once both came, and the store is as it was then
pub no_fewer : (way : Way) (pass : FullPass) (d between since later : DriveFields) (report : Compaction) → IsCompactedBy way d between report → Finishes pass between since → store_of later ≡ store_of since
    → blocks_left (store_of d) ≤ blocks_left (store_of later)
no_fewer way pass d between since later report is finishes same =
    let first = compacted_no_fewer way d between report is in
    let second = finished_no_fewer pass between since finishes in
    let end = ap blocks_left same in
    omega (arith, first, second, end)

pub more : (way : Way) (pass : FullPass) (d between since later : DriveFields) (report : Compaction) → IsCompactedBy way d between report → Finishes pass between since → store_of later ≡ store_of since → room (store_of d) ≤ room (store_of later)
more way pass d between since later report is finishes same =
    let first = compacted_more way d between report is in
    let second = finished_more pass between since finishes in
    let end = ap room same in
    omega (arith, first, second, end)

-- ---- what is held

made : (pass : FullPass) (d later : DriveFields) → pass ≡ Made → Finishes pass d later → HoldsWhatIsRead d later
made pass d later is finishes = (let passes : Finishes Made d later = subst (λ (p : FullPass). Finishes p d later) is finishes in passes.passed.holds)

-- of the history that was before, and the store that is in the end
pub holds : (pass : FullPass) (d between since later : DriveFields) → between.ledger ≡ d.ledger → later.ledger ≡ since.ledger → store_of later ≡ store_of since → Finishes pass between since → pass ≡ Made → HoldsWhatIsRead d later
holds pass d between since later begun ended same finishes is =
    let passed : HoldsWhatIsRead between since = made pass between since is finishes in
    let before : history_of between ≡ history_of d = ap (λ (l : Ledger). l.history) begun in
    let after : history_of later ≡ history_of since = ap (λ (l : Ledger). l.history) ended in
    subst (λ (s : StoreFields). IsCleanedUp (history_of d) (history_of later) (version_in s) (λ o p. IsSome (of_kind Data o s.log.held p)) (PointsTo s)) (sym same)
    (subst (λ (h : History). IsCleanedUp (history_of d) h (version_in (store_of since)) (λ o p. IsSome (of_kind Data o (store_of since).log.held p)) (PointsTo (store_of since))) (sym after)
    (subst (λ (h : History). IsCleanedUp h (history_of since) (version_in (store_of since)) (λ o p. IsSome (of_kind Data o (store_of since).log.held p)) (PointsTo (store_of since))) before passed))

-- ---- what can be read

-- what is needed stays over both, and over what only reads
pub needed : (d between since : DriveFields) (later : StoreFields) → between.ledger ≡ d.ledger → KeepsVersions (state_in d) (store_of d) (store_of between) → KeepsVersions (state_in between) (store_of between) (store_of since)
    → later ≡ store_of since → KeepsVersions (state_in d) (store_of d) later
needed d between since later begun first second same =
    let state : state_in between ≡ state_in d = ap (λ (l : Ledger). state_of l.history) begun in
    subst (λ (s : StoreFields). KeepsVersions (state_in d) (store_of d) s) (sym same)
    (λ o t here. subst (λ (x : State). KeepsVersions x (store_of between) (store_of since)) state second o t here ∙ first o t here)
