use Rattle.std.proofs.Common.{◌≡◌, ◌∙◌, ap, sym, ℕ, ◌-◌, List, [], ◌++◌, length, take, drop, None, true, refl, arith}
use Rattle.std.proofs.lemmas.List.{take_rest}
use Rattle.demi_spec.specs.Input.{front}
use Rattle.demi_frame.specs.Decoding.{Decoding, code_of, finish_of}
use Rattle.demi_audit.proofs.Feeding.{clean_left, fed_few, fed_more, fed_piece, none_left, refused_left}
use Rattle.demi_audit.proofs.input_reader.InputReader.next.Goals as goal

pub returns-in-None : goal.returns-in-None
returns-in-None c =
    let i = c.feeding.invariant in
    let r = c.feeding.self in
    let unfed : List ℕ = drop r.fed r.input.now in
    let more = c.in-More.ensures.consumed i.reader.stop in
    let code : None ≡ finish_of c.next.new.self c.next.new.self.stop = c.in-None.ensures.code in
    let here : None ≡ code_of (front true r.decoder.rest) = code ∙ ap (finish_of c.next.new.self) more.3 ∙ ap (λ (t : List ℕ). code_of (front true t)) more.1 in
    let none : unfed ≡ [] = sym (take_rest r.input.now r.fed) ∙ none_left (take (length r.input.now - r.fed) unfed) c.is_empty.result c.is_empty.ensures c.if-is_empty.true in
    ap (front true) (sym i.same) ∙ clean_left r.decoder.rest unfed none more.0 here

pub feeding-preserved : goal.feeding-preserved
feeding-preserved c =
    let i = c.feeding.invariant in
    let r = c.feeding.self in
    let input : List ℕ = r.input.now in
    let m : ℕ = c.min.result in
    let n : ℕ = c.feed.result in
    let more = c.in-More.ensures.consumed i.reader.stop in
    let few = fed_few input r.fed m c.min.ensures in
    let all = c.feed.ensures.whole more.2 few.0 in
    let grown : c.feed.new.self.rest ≡ r.decoder.rest ++ take n (drop r.fed input) =
    ap (λ (d : Decoding). d.rest) c.feed.ensures.fed
    ∙ ap (λ (l : List ℕ). l ++ take n (take m (take (length input - r.fed) (drop r.fed input)))) more.1
    ∙ ap (λ (l : List ℕ). r.decoder.rest ++ l) (fed_piece input r.fed m n c.min.ensures all) in
    record {
      reader = record {
        stop = ap (λ (d : Decoding). d.stop) c.feed.ensures.fed ∙ more.3;
        within = (let w = i.reader.within in omega (arith, few.1, all));
      };
      same = fed_more r.decoder.rest c.feed.new.self.rest (take n (drop r.fed input)) input r.fed n refl grown ∙ i.same;
      input = i.input;
    }

pub returns-in-Refused : goal.returns-in-Refused
returns-in-Refused c =
    let i = c.feeding.invariant in
    let r = c.feeding.self in
    let stop = c.in-Refused.ensures.consumed i.reader.stop in
    ap (front true) (sym i.same) ∙ refused_left r.decoder.rest (drop r.fed r.input.now) c.in-Refused.code stop.0
