use Rattle.std.proofs.Common.{rules, arith, suc, ◌≡◌, ◌+◌, ◌<◌, ◌≤◌, ◌||◌, ◌++◌, ◌∷◌, [], List, length, nat_lt, slice_index_or, take, drop, refl, sym, ap, subst, ◌∙◌, take-append-drop, take-suc, drop-cons, append_assoc, length-append}
use mir.Val.{SFits}
use mir.Syntax.{w64}
use Rattle.std.proofs.lemmas.Int.{to_z-of_z}
use Rattle.std.proofs.lemmas.List.{drop_all}
use Rattle.std.specs.List.{AllZip}
use Rattle.mq_arena.specs.Text.{PlainText}
use Rattle.mq_system.specs.Drafts.{AreBlocksFor, IsDraftRefused, IsLetterOf}
use Rattle.mq_system.specs.declared.many.Letter.{Letter}
use Rattle.mq_system.proofs.BlockLemmas.{first_for, more_zipped, no_letter, none_left, rest_for}
use Rattle.mq_system.proofs.system.System.draft_texts_by_within.Goals as goal

pub loop-place-init : goal.loop-place-init
loop-place-init g c =
    let none : List (Letter PlainText) = [] in
    (none, search rules, tt, refl, c.blocks_for-blocks.ensures, search (rules, arith), refl)

pub draft_next-requires : goal.draft_next-requires
draft_next-requires g c =
    let letters = c.args.letters.now in
    let place = c.loop-place.place in
    let letter = slice_index_or letters place no_letter in
    let less : place < length letters = search (rules, arith) in record {
      block = first_for (λ r. r.now) c.loop-place.blocks.items letter (drop (suc place) letters)
          (subst (AreBlocksFor (λ r. r.now) c.loop-place.blocks.items)
          (drop-cons letters place no_letter less) c.loop-place.invariant.4);
    }

pub returns-in-Err : goal.returns-in-Err
returns-in-Err g c =
    let had = c.loop-place.invariant in
    let letters = c.args.letters.now in
    let place = c.loop-place.place in
    let letter = slice_index_or letters place no_letter in
    let less : place < length letters = search (rules, arith) in record {
      answer = record {
        drafts = had.0;
        made = take place letters;
        left = drop place letters;
        added = had.1;
        split = sym (take-append-drop place letters);
        each = had.2;
        all = tt;
        refused = record {
          first = letter;
          others = drop (suc place) letters;
          is = drop-cons letters place no_letter less;
          why = subst (λ k. IsDraftRefused (g.T.Patience.ends || nat_lt 0 k) g.N.Names.height
              (length letter.text.now) c.in-Err.refused) (sym had.3)
              (search (rules, c.in-Err.ensures.refused));
        };
      };
    }

pub loop-place-preserved : goal.loop-place-preserved
loop-place-preserved g c =
    let had = c.loop-place.invariant in
    let letters = c.args.letters.now in
    let place = c.loop-place.place in
    let letter = slice_index_or letters place no_letter in
    let less : place < length letters = search (rules, arith) in
    let next : place + 1 ≡ suc place = omega arith in
    let more : take (place + 1) letters ≡ take place letters ++ letter ∷ [] =
    ap (λ n. take n letters) next ∙ take-suc letters place no_letter less in
    let l : Letter PlainText = record { mtype = letter.mtype; tag = letter.tag; text = c.in-Ok.text } in
    let fits : SFits w64 letter.mtype = search rules in
    let grown : c.push_back_reserved.new.self.items ≡ c.loop-place.texts.items ++ l ∷ [] =
    simp to_z-of_z at c.push_back_reserved.ensures.items in
    let drafted : IsLetterOf (λ r. r.now) l letter =
    record { mtype = refl; tag = refl; draft = search (rules, c.in-Ok.ensures.ok) } in
    let rest : AreBlocksFor (λ r. r.now) (drop 1 c.loop-place.blocks.items) (drop (suc place) letters) =
    rest_for (λ r. r.now) c.loop-place.blocks.items letter (drop (suc place) letters)
    (subst (AreBlocksFor (λ r. r.now) c.loop-place.blocks.items) (drop-cons letters place no_letter less)
    had.4) in (
      had.0 ++ l ∷ [],
      grown ∙ ap (λ xs. xs ++ l ∷ []) had.1 ∙ append_assoc c.args.texts.now.items had.0 (l ∷ []),
      subst (λ t. AllZip (IsLetterOf (λ r. r.now)) (had.0 ++ l ∷ []) t) (sym more)
          (more_zipped (IsLetterOf (λ r. r.now)) had.0 (take place letters) l letter had.2 drafted),
      length-append had.0 (l ∷ []) ∙ ap (λ n. n + 1) had.3,
      subst (λ n. AreBlocksFor (λ r. r.now) c.draft_next.new.blocks.items (drop n letters)) (sym next)
          (subst (λ bs. AreBlocksFor (λ r. r.now) bs (drop (suc place) letters))
          (sym c.in-Ok.ensures.rest) rest),
      search (rules, arith),
      search (rules, arith),
    )

pub destroy_empty-requires-2 : goal.destroy_empty-requires-2
destroy_empty-requires-2 g c =
    let had = c.loop-place.invariant in
    let letters = c.args.letters.now in
    let place = c.loop-place.place in
    let all : length letters ≤ place = search (rules, arith) in
    let gone : c.loop-place.blocks.items ≡ [] =
    none_left (λ r. r.now) c.loop-place.blocks.items
    (subst (AreBlocksFor (λ r. r.now) c.loop-place.blocks.items) (drop_all place letters all)
    had.4) in
    search (rules, ap length gone)

pub returns : goal.returns
returns g c =
    let had = c.loop-place.invariant in
    let letters = c.args.letters.now in
    let place = c.loop-place.place in
    let all : length letters ≤ place = search (rules, arith) in record {
      answer = record {
        drafts = had.0;
        made = take place letters;
        left = drop place letters;
        added = had.1;
        split = sym (take-append-drop place letters);
        each = had.2;
        all = drop_all place letters all;
        refused = tt;
      };
    }
