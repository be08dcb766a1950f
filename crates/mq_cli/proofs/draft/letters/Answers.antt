use Rattle.std.proofs.Common.{◌≡◌, ◌+◌, ◌*◌, ◌%◌, ◌≤◌, ◌∙◌, ap, refl, map, take, arith}
use Rattle.std.proofs.Math.Nat.{mod-add-div}
use Rattle.std.proofs.lemmas.List.FromFn.{take-map-range_with_len}
use Rattle.std.specs.List.{range_with_len}
use Rattle.mq_cli.specs.Drafts.{letter}
use Rattle.mq_cli.specs.declared.draft.TheConstants.{ALPHABET}
use Rattle.mq_cli.proofs.LettersLemmas.{more_letters}
use Rattle.mq_cli.proofs.draft.letters.Goals as goal

pub loop-preserved : goal.loop-preserved
loop-preserved c =
    let next : 26 * c.loop.counter + 26 ≡ 26 * (c.loop.counter + 1) = omega arith in
    c.in_ok-extend_from_slice.ensures.items
    ∙ more_letters c.loop.letters.items ALPHABET c.loop.counter 26 c.loop.invariant refl
    ∙ ap (λ n. map letter (range_with_len 0 n)) next

pub returns : goal.returns
returns c =
    let rest = c.args.count % 26 in
    let few : rest ≤ 26 = omega arith in
    let whole : 26 * c.loop.counter + rest ≡ c.args.count = omega (arith, mod-add-div c.args.count 26) in
    c.in_ok-extend_from_slice-2.ensures.items
    ∙ more_letters c.loop.letters.items (take rest ALPHABET) c.loop.counter rest c.loop.invariant
    (take-map-range_with_len letter 0 26 rest few)
    ∙ ap (λ n. map letter (range_with_len 0 n)) whole
