use Rattle.std.proofs.Common.{◌≡◌, ◌+◌, ◌<◌, length, slice_set, arith, rules}
use Rattle.mq_system.proofs.LaterLemmas.{look_trans}
use Rattle.mq_system.proofs.ReportLemmas.{AreRows, all_rows, rows_more}
use Rattle.mq_system.proofs.seat.Seat.report.Goals as goal

pub loop-number-preserved : goal.loop-number-preserved
loop-number-preserved g c =
    let had = c.loop-number.invariant in
    let seat = c.loop-number.self in
    let now = c.row.new.self in
    let told = c.row.ensures in
    let slots : c.slots-number-end.result ≡ g.N.Names.slots = search rules in
    let within : c.loop-number.number < length c.loop-number.rows = search rules in
    let low : c.loop-number.number < length seat.fronts =
    omega (arith, had.1.later.count, c.holds.ensures.fronts, slots, c.loop-number-test.true) in
    let more : AreRows now.fronts (slice_set c.loop-number.rows c.loop-number.number c.row.result) (c.loop-number.number + 1) =
    rows_more seat now c.loop-number.rows c.loop-number.number c.row.result within low told.others
    told.row had.2 in (
      search rules,
      look_trans c.args.self.now seat now had.1 (record { same = told.same; later = told.later }),
      search (rules, more),
    )

pub returns-clause-rows : goal.returns-clause-rows
returns-clause-rows g c =
    let had = c.loop-number.invariant in
    let seat = c.loop-number.self in
    let slots : c.slots-number-end.result ≡ g.N.Names.slots = search rules in
    let same : length c.loop-number.rows ≡ length seat.fronts =
    omega (arith, had.0, c.requires, had.1.later.count, c.holds.ensures.fronts) in
    all_rows seat.fronts c.loop-number.rows same
    (λ k d less. had.2 k d (omega (arith, less, had.0, c.requires, slots, c.loop-number.end-fits)))
