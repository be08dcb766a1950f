use Rattle.std.proofs.Common.{◌≡◌, ◌∙◌, ◌≤◌, ◌<◌, List, ℕ, length, take, drop, get_or, ap, sym, arith}
use Rattle.std.proofs.lemmas.List.{take_min, drop_min, length-take}
use Rattle.std.proofs.lemmas.List.Elements.{All-set, All-get_or}
use Rattle.std.specs.List.{concat}
use Rattle.mq_arena.specs.declared.page.TheConstants.{PAGE_LEN}
use Rattle.mq_arena.specs.Bytes.{over, filled}
use Rattle.mq_arena.proofs.Filling.{filled_more, filled_all, length-over, concat-filled}
use Rattle.mq_arena.proofs.writes.fill.Goals as goal

pub loop-page-preserved : goal.loop-page-preserved
loop-page-preserved c =
    let i : ℕ = c.loop-page.page-index in
    let pages : List (List ℕ) = c.loop-page.pages in
    let rest : List ℕ = c.loop-page.rest.now in
    let page : List ℕ = get_or pages i c.page-item.result in
    let inside : i < length pages = omega arith in
    let part : c.split_at.result.0.now ≡ take PAGE_LEN rest =
    c.split_at.ensures.front ∙ ap (λ k. take k rest) c.min.ensures ∙ take_min PAGE_LEN rest in
    let later : c.split_at.result.1.now ≡ drop PAGE_LEN rest =
    c.split_at.ensures.back ∙ ap (λ k. drop k rest) c.min.ensures ∙ drop_min PAGE_LEN rest in
    let new : c.write.new.self ≡ over (take PAGE_LEN rest) page = cc (c.write.ensures, part) in
    let long : length page ≡ PAGE_LEN =
    All-get_or (λ p. length p ≡ PAGE_LEN) pages i c.page-item.result inside c.loop-page.invariant.whole in
    let short : length (take PAGE_LEN rest) ≤ length page = omega (arith, length-take PAGE_LEN rest) in
    let kept : length c.write.new.self ≡ PAGE_LEN =
    ap length new ∙ length-over (take PAGE_LEN rest) page short ∙ long in
    record {
      whole = All-set (λ p. length p ≡ PAGE_LEN) pages i c.write.new.self kept c.loop-page.invariant.whole;
      goes_on = let step = filled_more PAGE_LEN pages i c.page-item.result rest inside in
          c.loop-page.invariant.goes_on ∙ rw (new, later) step;
    }

pub returns-clause-bytes : goal.returns-clause-bytes
returns-clause-bytes c =
    let past : length c.loop-page.pages ≤ c.loop-page.page-index = omega arith in
    let pages : filled PAGE_LEN c.args.pages.now c.args.bytes.now ≡ c.loop-page.pages =
    c.loop-page.invariant.goes_on ∙ filled_all PAGE_LEN c.loop-page.pages c.loop-page.page-index c.loop-page.rest.now past in
    ap concat (sym pages) ∙ concat-filled PAGE_LEN c.args.pages.now c.args.bytes.now c.requires.whole c.requires.fits
