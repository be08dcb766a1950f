use Rattle.std.proofs.Common.{◌≡◌, ◌∙◌, ◌-◌, ◌≤◌, ◌<◌, ◌++◌, List, ℕ, length, take, drop, set, get_or, replicate, ap, sym, arith}
use Rattle.std.proofs.lemmas.List.{take_min, drop_min, length-take, length-replicate, length-set}
use Rattle.std.proofs.lemmas.List.Elements.{All-set, All-get_or}
use Rattle.mq_arena.specs.Bytes.{over, filled}
use Rattle.mq_arena.specs.declared.page.TheConstants.{PAGE_LEN}
use Rattle.mq_arena.proofs.Filling.{length-over}
use Rattle.mq_arena.proofs.Overwriting.{over_zeros, overwritten_more, overwritten_all}
use Rattle.mq_arena.proofs.writes.overwrite.Goals as goal

pub loop-page-preserved : goal.loop-page-preserved
loop-page-preserved c =
    let i : ℕ = c.loop-page.page-index in
    let pages : List (List ℕ) = c.loop-page.pages in
    let rest : List ℕ = c.loop-page.rest.now in
    let blank : List ℕ = replicate PAGE_LEN 0 in
    let page : List ℕ = get_or pages i c.page-item.result in
    let inside : i < length pages = omega arith in
    let part : c.split_at.result.0.now ≡ take PAGE_LEN rest =
    c.split_at.ensures.front ∙ ap (λ k. take k rest) c.min.ensures ∙ take_min PAGE_LEN rest in
    let later : c.split_at.result.1.now ≡ drop PAGE_LEN rest =
    c.split_at.ensures.back ∙ ap (λ k. drop k rest) c.min.ensures ∙ drop_min PAGE_LEN rest in
    let long : length page ≡ PAGE_LEN =
    All-get_or (λ p. length p ≡ PAGE_LEN) pages i c.page-item.result inside c.loop-page.invariant.whole in
    let new : c.overwrite.new.self ≡ over (take PAGE_LEN rest) blank =
    c.overwrite.ensures ∙ ap (λ n. c.split_at.result.0.now ++ replicate (n - length c.split_at.result.0.now) 0) long
    ∙ sym (over_zeros PAGE_LEN c.split_at.result.0.now) ∙ ap (λ bs. over bs blank) part in
    let short : length (take PAGE_LEN rest) ≤ length blank = omega (arith, length-take PAGE_LEN rest) in
    let kept : length c.overwrite.new.self ≡ PAGE_LEN =
    ap length new ∙ length-over (take PAGE_LEN rest) blank short ∙ length-replicate {A = ℕ} PAGE_LEN 0 in
    record {
      whole = All-set (λ p. length p ≡ PAGE_LEN) pages i c.overwrite.new.self kept c.loop-page.invariant.whole;
      goes_on = let step = overwritten_more PAGE_LEN pages i rest inside in
          let same : length (set pages i c.overwrite.new.self) ≡ length pages = length-set pages i c.overwrite.new.self in
          ap (λ n. filled PAGE_LEN (replicate n blank) c.args.bytes.now) same ∙ c.loop-page.invariant.goes_on
          ∙ rw (same, new, later) step;
    }

pub returns-clause-pages : goal.returns-clause-pages
returns-clause-pages c =
    let blank : List ℕ = replicate PAGE_LEN 0 in
    let past : length c.loop-page.pages ≤ c.loop-page.page-index = omega arith in
    sym (ap (λ n. filled PAGE_LEN (replicate n blank) c.args.bytes.now) (sym c.loop-page.auto.pages)
    ∙ c.loop-page.invariant.goes_on ∙ overwritten_all PAGE_LEN c.loop-page.pages c.loop-page.page-index c.loop-page.rest.now past)
