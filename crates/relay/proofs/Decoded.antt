-- The state bytes tell the channels that they were made of. Assumes nothing.
use Rattle.std.proofs.Common.{◌≡◌, ℕ, ◌+◌, ◌*◌, ◌/◌, ◌%◌, cond, eqb, List, refl, ap, arith}
use Rattle.relay.specs.declared.per_channel.PerChannel.{PerChannel}
use Rattle.relay.specs.declared.relay.Relay.{Relay}
use Rattle.relay.specs.Contacts.{Contact, opened, closed, running, code, time}
use Rattle.relay.specs.Relays.{state_of, contacts, content}
use Rattle.relay.specs.Shown.{all_shown}

one_decoded : (x : Contact) → cond (eqb (code x) 0) opened (cond (eqb (code x) 1) closed (running (time x / 65536 * 65536 + time x / 256 % 256 * 256 + time x % 256))) ≡ x
one_decoded opened = refl
one_decoded closed = refl
one_decoded (running n) = ap running (omega arith)

pub decoded : (cells : List ℕ) (x : PerChannel Contact) → contacts (record { cells = cells; state = state_of x }) ≡ x
decoded cells x =
    λ i. record { one = one_decoded x.one i; two = one_decoded x.two i; three = one_decoded x.three i; four = one_decoded x.four i }

-- so what a relay remembers tells what its channels are
pub decoded_content : (p : Relay) → contacts (content p) ≡ all_shown p.channels
decoded_content p = decoded (content p).cells (all_shown p.channels)
