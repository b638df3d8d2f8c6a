use Rattle.std.proofs.Common.{◌≡◌, ◌≢◌, ℕ, ◌+◌, ◌<◌, ◌≤◌, false, true, length}
use Rattle.std.specs.Int.{bit_at}
use Rattle.demi_port_core.specs.Bits.{has_bit}
use Rattle.demi_device.specs.Holding.{FetchedMore}
use Rattle.demi_device.proofs.inbox.Inbox.fetch_rung.Given as goal

abbrev pub invariant-loop-index : goal.invariant-loop-index
invariant-loop-index g l = record {
  port : l.self.seat.port ≡ l.port;
  given : l.self.given ≡ l.initial.self.given;
  fetched : FetchedMore l.initial.self.seat l.self.seat;
  cleared : (i : ℕ) → i < l.index → i < l.port.tokens.slots → i < 64 → bit_at l.self.seat.rang i ≡ 0;
  ahead : (i : ℕ) → l.index ≤ i → i < l.port.tokens.slots → i < 64 → has_bit l.bells.words i ≡ 1 → bit_at l.self.seat.rang i ≡ 1;
  rest : (i : ℕ) → i < l.port.tokens.slots → i < 64 → has_bit l.bells.words i ≢ 1 → bit_at l.self.seat.rang i ≡ 0;
  none : l.some ≡ false → (l.self.seat.fetched ≡ l.initial.self.seat.fetched) × ((i : ℕ) → i < l.index → i < l.port.tokens.slots → i < 64 → has_bit l.bells.words i ≢ 1);
  some : l.some ≡ true → (length l.initial.self.seat.fetched < length l.self.seat.fetched) × (length l.self.seat.fetched ≤ length l.self.seat.finished + l.port.tokens.slots);
}
