-- The serial port in one state (80C196KC User's Manual, "Serial Port": SP_CON, SP_STAT, SBUF, baud rate register; the pins and
-- the order inside a state are this kit's own).
use Rattle.std.specs.Prelude.{◌≡◌, ℕ, ◌%◌, ◌==◌, Bool, true, false, not, ◌&&◌, ◌||◌, if◌then◌else◌, List, [], ◌∷◌, None, bit_or, bit_xor}
use Rattle.kc_base.specs.Pins.{txd, rxd}
use Rattle.kc_base.specs.Bits.{bit}
use Rattle.kc_base.specs.Levels.{is_high}
use Rattle.kc_base.specs.declared.types.Edge.{Edge}
use Rattle.kc_base.specs.declared.types.Level.{Level}
use Rattle.kc_base.specs.declared.types.Level.TheVariants.{Low, High}
use Rattle.kc_extra.specs.declared.outcome.ExtraOut.{ExtraOut}
use Rattle.kc_serial.specs.Frames.{shown, ends, sending_after, waiting_after}
use Rattle.kc_serial.specs.Samples.{completes, reception_after, received_after}
use Rattle.kc_serial.specs.declared.sending.Sending.TheVariants.{Idle}
use Rattle.kc_serial.specs.declared.serial.Flags.{Flags}
use Rattle.kc_serial.specs.declared.serial.Serial.{Serial}

-- SP_CON: the port is on, and it may receive
abbrev pub is_on : ℕ → Bool
is_on control = control % 4 == 1

abbrev pub receives : ℕ → Bool
receives control = is_on control && bit control 3

-- RI and TI are set at the end of a reception and of a frame; OE where RI still was, FE where the stop bit is 0
abbrev pub flags_after : Bool → Serial → Flags
flags_after high d = record {
  received = d.flags.received || completes d.reception;
  sent = d.flags.sent || ends d.sending;
  framing = d.flags.framing || (completes d.reception && not high);
  overrun = d.flags.overrun || (completes d.reception && d.flags.received);
}

-- a state with this level of RXD, and whether it has just fallen
abbrev pub ticked : Bool → Bool → Serial → Serial
ticked high falls d = record {
  rate = d.rate;
  control = d.control;
  flags = flags_after high d;
  received = received_after d.received d.reception;
  waiting = waiting_after d.waiting d.sending;
  sending = sending_after d.rate d.waiting d.sending;
  reception = reception_after d.rate high (falls && receives d.control) d.reception;
  rxd = high;
  moves = d.moves;
}

-- an end of a frame raises 8 and 6, one of a reception 9 and 6
abbrev pub requests : Bool → Bool → ℕ
requests sent received = bit_or (if sent then 0x140 else 0) (if received then 0x240 else 0)

-- TXD has an edge where it shows another level than before
abbrev pub txd_edges : Bool → Bool → List Edge
txd_edges true true = []
txd_edges false false = []
txd_edges true false = record { pin = record { 0 = txd }; level = Low } ∷ []
txd_edges false true = record { pin = record { 0 = txd }; level = High } ∷ []

-- what a state gives
abbrev pub out : Serial → ExtraOut
out d = record {
  raised = record { 0 = requests (ends d.sending) (completes d.reception) };
  moved = txd_edges (shown d.sending) (shown (sending_after d.rate d.waiting d.sending));
}

-- at the levels and edges of the input pins, of which it sees RXD alone
abbrev pub ticked_at : ℕ → ℕ → Serial → Serial
ticked_at levels edges d = ticked (bit levels rxd) (bit edges rxd && not (bit levels rxd)) d

-- without an edge
abbrev pub rested : Serial → Serial
rested d = ticked d.rxd false d

-- the level of RXD that it keeps is the one before these edges
abbrev pub Keeps : ℕ → ℕ → Serial → Type 0
Keeps levels edges d = d.rxd ≡ bit (bit_xor levels edges) rxd

-- as it is made
abbrev pub start : Level → Serial
start level = record {
  rate = 0;
  control = 0;
  flags = record { received = false; sent = false; framing = false; overrun = false };
  received = 0;
  waiting = None;
  sending = Idle;
  reception = None;
  rxd = is_high level;
  moves = 0;
}
