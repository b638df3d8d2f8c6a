use Rattle.std.proofs.Common.{◌≡◌, length, map, ◌+◌, sym, arith}
use Rattle.std.proofs.lemmas.List.{length-map}
use Rattle.demi_audit.proofs.Counting.{line_written, summary_is}
use Rattle.demi_audit.proofs.Logged.{counted}
use Rattle.demi_audit.proofs.summing.summary.Goals as goal

pub returns : goal.returns
returns c = λ records is.
    let ends = c.in_ok-ends_of.field-0 in
    let t = c.in_ok-tally.tally in
    let long : c.len-records.result ≡ length records = omega (arith, c.len-records.ensures, ends.ok.0, counted c.args.log.now ends.items records (c.in_ok-ends_of.ensures records is)) in
    let written = line_written c.new-line.result.bytes c.push_number.new.text.bytes c.push_number-2.new.text.bytes c.push_number-3.new.text.bytes c.push_number-4.new.text.bytes c.push_number-5.new.text.bytes c.push_number-6.new.text.bytes
    c.push_number-7.new.text.bytes c.push_str.new.self.bytes (length c.args.inputs.now) (t.puts + t.gets + t.ends) t.puts t.gets t.ends c.len-records.result (length c.args.log.now)
    c.new-line.ensures c.push_number.ensures.text c.push_number-2.ensures.text c.push_number-3.ensures.text c.push_number-4.ensures.text c.push_number-5.ensures.text c.push_number-6.ensures.text c.push_number-7.ensures.text
    c.push_str.ensures.bytes in
    summary_is c.push_str.new.self.bytes (map (λ input. input.items) c.args.inputs.now) t (length c.args.inputs.now) c.len-records.result (length records) (length c.args.log.now) written (sym (length-map c.args.inputs.now (λ input. input.items))) c.in_ok-tally.ensures.counts long
