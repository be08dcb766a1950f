use Rattle.std.proofs.Common.{◌≡◌, ◌∙◌, ◌-◌, ◌≤◌, ◌<◌, ◌++◌, List, ℕ, length, take, get_or, replicate, ap, sym, arith}
use Rattle.std.proofs.lemmas.List.Elements.{All-set, All-get_or}
use Rattle.std.specs.List.{concat}
use Rattle.mq_arena.specs.declared.page.TheConstants.{PAGE_LEN}
use Rattle.mq_arena.proofs.Clearing.{kept_front, cleared, front_kept, length-kept_front, cleared_more, cleared_all, concat-cleared}
use Rattle.mq_arena.proofs.writes.clear_from.Goals as goal

pub loop-page-preserved : goal.loop-page-preserved
loop-page-preserved c =
    let i : ℕ = c.loop-page.page-index in
    let pages : List (List ℕ) = c.loop-page.pages in
    let rest : ℕ = c.loop-page.rest in
    let page : List ℕ = get_or pages i c.page-item.result in
    let inside : i < length pages = omega arith in
    let long : length page ≡ PAGE_LEN =
    All-get_or (λ p. length p ≡ PAGE_LEN) pages i c.page-item.result inside c.loop-page.invariant.whole in
    let new : c.clear_from.new.self ≡ kept_front PAGE_LEN rest page =
    c.clear_from.ensures ∙ ap (λ j. take j page ++ replicate (length page - j) 0) c.min-front.ensures
    ∙ front_kept PAGE_LEN rest page long in
    let later : rest - c.min-front.result ≡ rest - PAGE_LEN = omega arith in
    record {
      whole = All-set (λ p. length p ≡ PAGE_LEN) pages i c.clear_from.new.self
          (ap length new ∙ length-kept_front PAGE_LEN rest page long) c.loop-page.invariant.whole;
      goes_on = let step = cleared_more PAGE_LEN rest pages i c.page-item.result inside in
          c.loop-page.invariant.goes_on ∙ rw (new, later) step;
    }

pub returns-clause-bytes : goal.returns-clause-bytes
returns-clause-bytes c =
    let past : length c.loop-page.pages ≤ c.loop-page.page-index = omega arith in
    let pages : cleared PAGE_LEN c.args.len c.args.pages.now ≡ c.loop-page.pages =
    c.loop-page.invariant.goes_on ∙ cleared_all PAGE_LEN c.loop-page.rest c.loop-page.pages c.loop-page.page-index past in
    ap concat (sym pages) ∙ concat-cleared PAGE_LEN c.args.len c.args.pages.now c.requires
