use Rattle.std.proofs.Common.{◌≡◌, ◌∙◌, ◌^◌, ◌++◌, ◌≤◌, ℕ, List, length, take, drop, ap, sym, subst, arith}
use Rattle.std.proofs.lemmas.List.{length-take-le}
use Rattle.std.proofs.lemmas.List.Elements.{All-take}
use Rattle.std.specs.List.{refill}
use Rattle.mq_arena.specs.Bytes.{AreWhole}
use Rattle.mq_arena.specs.declared.page.TheConstants.{PAGE_LEN}
use Rattle.mq_arena.proofs.Kept.{halves_left, at_same, kept}
use Rattle.mq_arena.proofs.block.Block.write_halves.Goals as goal

pub returns-clause-halves : goal.returns-clause-halves
returns-clause-halves g c =
    let h = c.write_both.ensures.halves in
    let old : List (List ℕ) = c.args.self.now.pages in
    let here : c.self.inside.pages.value.items ≡ old = ap (λ b. b.pages) c.self.view_is in
    let lent_items : c.deref_mut.result.now.items ≡ old = ap (λ v. v.items) c.deref_mut.ensures.value ∙ here in
    let lent : c.as_mut_slice.result.now ≡ old = c.as_mut_slice.ensures.value ∙ lent_items in
    let long : length old ≡ 2 ^ c.args.self.now.order =
    ap length (sym here) ∙ c.self.invariant.block.count ∙ ap (λ b. 2 ^ b.order) c.self.view_is in
    let short : c.args.i ≤ length old = omega (arith, c.requires.within) in
    let whole : AreWhole old = subst AreWhole here c.self.invariant.block.whole in
    let first = at_same _ _ _ _ _ (ap (take c.args.i) lent) (λ p q next s. record { met = s.met }) h.3 in
    let second = at_same _ _ _ _ _ (ap (drop c.args.i) lent) (λ p q next s. record { met = s.met }) h.4 in
    let all : refill (length old) old c.write_both.new.all ≡ h.0 ++ h.1 =
    halves_left _ _ old c.write_both.new.all h.0 h.1 c.args.i (2 ^ c.args.self.now.order)
    whole long c.requires.within c.requires.front_kept
    c.requires.back_kept first second (h.2 ∙ ap (λ pages. refill (length pages) pages (h.0 ++ h.1)) lent) in
    record {
      front = h.0;
      back = h.1;
      new_is = ap (λ pages. refill (length pages) pages c.write_both.new.all) lent_items ∙ all;
      count = (kept _ c.args.i (take c.args.i old) h.0 c.requires.front_kept
          (All-take (λ p. length p ≡ PAGE_LEN) c.args.i old whole) (length-take-le c.args.i old short) first).1;
      front_by = first;
      back_by = second;
    }
