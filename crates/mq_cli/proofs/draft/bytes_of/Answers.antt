use Rattle.std.proofs.Common.{length, ap, sym, ◌∙◌}
use Rattle.mq_cli.proofs.DraftLemmas.{letters_cut, letters_length}
use Rattle.mq_cli.proofs.draft.bytes_of.Goals as goal

pub returns-in-Letters : goal.returns-in-Letters
returns-in-Letters c =
    let most = rw c.in-Letters.is at c.requires.fits in
    rw c.in-Letters.is (letters_cut c.args.letters.now c.in-Letters.count c.requires.letters most)

pub slice_bounds-result-end : goal.slice_bounds-result-end
slice_bounds-result-end c =
    let most = rw c.in-Letters.is at c.requires.fits in
    let cut = letters_cut c.args.letters.now c.in-Letters.count c.requires.letters most in
    sym (ap length cut ∙ letters_length c.in-Letters.count)
