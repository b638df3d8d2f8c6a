use Rattle.std.proofs.Common.{◌∙◌, ap, arith}
use Rattle.demi_spec.specs.Request.{Get, Put}
use Rattle.demi_frame.specs.Decoding.{key_of, value_of}
use Rattle.demi_audit.specs.Inputs.{left}
use Rattle.demi_audit.proofs.InOrder.{got, left_shorter, served_clean, served_end, served_refused, so_next}
use Rattle.demi_audit.proofs.one_link.serve.Goals as goal

pub serving-preserved-in-Put : goal.serving-preserved-in-Put
serving-preserved-in-Put c =
    let i = c.serving.invariant in
    let r = c.serving.reader in
    let h = c.in-Put.ensures in
    let key = c.key-key.ensures ∙ ap key_of h.2.last in
    let value = c.value-value.ensures ∙ ap value_of h.2.last in
    record {
      so = λ old keeps.
          so_next old c.args.limit c.args.input.now (left r) (left c.next.new.self) c.serving.output.items c.answer_put.new.output.items c.serving.store c.answer_put.new.store c.serving.count (Put h.0 h.1)
          (Put c.key-key.result.now c.value-value.result.now) (i.so old keeps) h.2.takes h.2.goes_on (λ j. Put (key j) (value j)) c.in_ok-answer_put-in-Put.ensures;
      reader = h.2.reader;
      fits = omega (arith, i.fits, left_shorter (left r) (left c.next.new.self) (Put h.0 h.1) h.2.takes);
    }

pub serving-preserved : goal.serving-preserved
serving-preserved c =
    let i = c.serving.invariant in
    let r = c.serving.reader in
    let h = c.in-Get.ensures in
    let key = c.key.ensures ∙ ap key_of h.1.last in
    record {
      so = λ old keeps.
          so_next old c.args.limit c.args.input.now (left r) (left c.next.new.self) c.serving.output.items c.answer_get.new.output.items c.serving.store c.serving.store c.serving.count (Get h.0) (Get c.key.result.now)
          (i.so old keeps) h.1.takes h.1.goes_on (λ j. Get (key j))
          (λ rs has. got rs c.args.limit c.serving.count c.key.result.now c.serving.output.items c.answer_get.new.output.items c.serving.store has (c.in_ok-answer_get-in-Get.ensures rs has c.args.limit));
      reader = h.1.reader;
      fits = omega (arith, i.fits, left_shorter (left r) (left c.next.new.self) (Get h.0) h.1.takes);
    }

pub returns-in-End : goal.returns-in-End
returns-in-End c = λ old keeps.
    served_end old c.args.limit c.args.input.now (left c.serving.reader) (left c.next.new.self) c.serving.output.items c.say.new.output.items c.serving.store c.serving.count (c.serving.invariant.so old keeps)
    c.in-End.ensures c.in_ok-say-in-End.ensures

pub returns-in-Refused : goal.returns-in-Refused
returns-in-Refused c = λ old keeps.
    served_refused old c.args.limit c.args.input.now (left c.serving.reader) c.serving.output.items c.say-in-Refused.new.output.items c.serving.store c.serving.count c.in-Refused.code (c.serving.invariant.so old keeps)
    c.in-Refused.ensures c.in_ok-say-in-Refused.ensures

pub returns-in-Clean : goal.returns-in-Clean
returns-in-Clean c = λ old keeps.
    served_clean old c.args.limit c.args.input.now (left c.serving.reader) c.serving.output.items c.serving.store c.serving.count (c.serving.invariant.so old keeps) c.in-Clean.ensures
