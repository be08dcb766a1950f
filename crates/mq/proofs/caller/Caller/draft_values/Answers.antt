use Rattle.std.proofs.Common.{rules, arith, suc, ◌≡◌, ◌+◌, ◌<◌, ◌||◌, ◌++◌, ◌∷◌, [], length, nat_lt, min, take, drop, refl, sym, ap, subst, ◌∙◌, take-append-drop, take-suc, drop-cons}
use mir.Val.{SFits}
use mir.Syntax.{w64}
use Rattle.std.proofs.lemmas.Int.{to_z-of_z}
use Rattle.std.proofs.lemmas.List.Elements.{All-push}
use Rattle.std.specs.List.{AllZip}
use Rattle.mq_arena.specs.Text.{PlainText}
use Rattle.mq_system.specs.declared.many.Letter.{Letter}
use Rattle.mq_system.specs.declared.many.TheConstants.{MAX_BATCH}
use Rattle.mq.specs.ValueBatches.{HasNoText, IsDraftOf}
use Rattle.mq_system.proofs.BlockLemmas.{more_zipped}
use Rattle.mq.proofs.caller.Caller.draft_values.Goals as goal

pub returns-in-Err-clause-answer : goal.returns-in-Err-clause-answer
returns-in-Err-clause-answer g c =
    let had = c.loop-place.invariant in
    let letters = c.args.letters.now in
    let place = c.loop-place.place in
    let letter = c.index-letters-place.result in
    let less : place < length letters = search (rules, arith) in
    let few : place < MAX_BATCH = search (rules, arith) in record {
      made = take place letters;
      left = drop place letters;
      split = sym (take-append-drop place letters);
      each = had.0;
      within = omega (arith, had.1, few);
      all = omega (arith, had.1, few);
      refused = record {
        first = letter;
        others = drop (suc place) letters;
        is = drop-cons letters place letter less
            ∙ ap (λ x. x ∷ drop (suc place) letters) (sym c.index-letters-place.is);
        why = subst (λ k. HasNoText g.P.Value.Wire.bytes_of g.N.Names.slots g.N.Names.height c.args.id
            (g.T.Patience.ends || nat_lt 0 k) letter c.in-Err.errno) (sym had.1)
            (search (rules, c.in-Err.ensures.refused));
      };
    }

pub loop-place-preserved : goal.loop-place-preserved
loop-place-preserved g c =
    let had = c.loop-place.invariant in
    let letters = c.args.letters.now in
    let place = c.loop-place.place in
    let texts = c.loop-place.texts.items in
    let seat = c.args.self.now.seat.number in
    let letter = c.index-letters-place.result in
    let less : place < length letters = search (rules, arith) in
    let next : place + 1 ≡ suc place = omega arith in
    let more : take (place + 1) letters ≡ take place letters ++ letter ∷ [] =
    ap (λ n. take n letters) next ∙ take-suc letters place letter less
    ∙ ap (λ x. take place letters ++ x ∷ []) (sym c.index-letters-place.is) in
    let l : Letter PlainText = record { mtype = letter.mtype; tag = letter.tag; text = c.in-Ok.text } in
    let fits : SFits w64 letter.mtype = search rules in
    let grown : c.push_reserved.new.self.items ≡ texts ++ l ∷ [] =
    simp to_z-of_z at c.push_reserved.ensures.items in
    let bytes : c.in-Ok.text.bytes ≡ g.P.Value.Wire.bytes_of letter.text =
    search (rules, c.in-Ok.ensures.bytes) in
    let drafted : IsDraftOf g.P.Value.Wire.bytes_of l letter =
    record { mtype = refl; tag = refl; bytes = bytes } in
    let vow : g.P.ValuePledge.vowed seat letter.tag letter.mtype letter.text =
    subst (λ x. g.P.ValuePledge.vowed seat x.tag x.mtype x.text) (sym c.index-letters-place.is)
    (c.requires.vow place letter less) in
    rw grown (
      subst (λ t. AllZip (IsDraftOf g.P.Value.Wire.bytes_of) (texts ++ l ∷ []) t) (sym more)
          (more_zipped (IsDraftOf g.P.Value.Wire.bytes_of) texts (take place letters) l letter had.0 drafted),
      search (rules, arith, ap length grown, had.1),
      c.push_reserved.ensures.capacity ∙ had.2,
      All-push (λ (x : Letter PlainText). g.P.Pledge.kept seat x.tag x.mtype x.text.bytes) texts l had.3
          (g.met.P.ValuePledge.written seat letter.tag letter.mtype c.in-Ok.text.bytes (letter.text, bytes, vow)),
      c.in-Ok.ensures.seat ∙ had.4,
      c.in-Ok.ensures.moments ∙ had.5,
    )

pub returns-clause-answer : goal.returns-clause-answer
returns-clause-answer g c =
    let had = c.loop-place.invariant in
    let letters = c.args.letters.now in
    let place = c.loop-place.place in
    let all : place ≡ min (length letters) MAX_BATCH = search (rules, arith) in record {
      made = take place letters;
      left = drop place letters;
      split = sym (take-append-drop place letters);
      each = had.0;
      within = omega (arith, had.1, all);
      all = had.1 ∙ all;
      refused = tt;
    }
