use Rattle.std.proofs.Common.{rules, arith, ◌≡◌, ◌<◌, ◌++◌, ◌∷◌, [], length, sym, subst, slice_index_or}
use Rattle.mq_system.specs.Drafts.{AreBlocksFor, IsBlockFor}
use Rattle.mq_system.proofs.BlockLemmas.{no_letter, one_more}
use Rattle.mq_system.proofs.pages.magazines.take_blocks.Goals as goal

pub loop-place-preserved : goal.loop-place-preserved
loop-place-preserved g c =
    let had = c.loop-place.invariant in
    let blocks = c.loop-place.blocks.items in
    let letters = c.args.letters.now in
    let place = c.loop-place.place in
    let long : length blocks ≡ place = search (rules, had.1) in
    let less : length blocks < length letters = search (rules, arith, long) in
    let one : IsBlockFor (length (slice_index_or letters place no_letter).text.now) c.in-Some.block =
    record { some = search (rules, arith); most = search (rules, arith); order = search rules } in
    let more : AreBlocksFor (λ r. r.now) (blocks ++ c.in-Some.block ∷ []) letters =
    one_more (λ r. r.now) blocks letters no_letter c.in-Some.block less had.0
    (subst (λ n. IsBlockFor (length (slice_index_or letters n no_letter).text.now) c.in-Some.block)
    (sym long) one) in (
      search (rules, more),
      search (rules, arith),
      search (rules, arith),
    )
