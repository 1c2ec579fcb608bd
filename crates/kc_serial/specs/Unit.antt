-- The serial port as a further unit of the board (this kit's own).
use Rattle.kc_extra.specs.Further.{Further}
use Rattle.kc_serial.specs.Port.{ticked_at, rested, out}
use Rattle.kc_serial.specs.Registers.{is_readable, is_writable, answer, after_read, after_write}
use Rattle.kc_serial.specs.declared.serial.Serial.{Serial}

-- what it does in a state, what its registers answer, and what reads and writes leave; a start is nothing to it
abbrev pub serial_further : Further Serial
serial_further = record {
  step = λ t levels edges d. ticked_at levels edges d;
  out = λ t levels edges d. out d;
  rest = λ t d. rested d;
  rest_out = λ t d. out d;
  readable = is_readable;
  answer = λ window sfr t d. answer window sfr d;
  after_read = λ window sfr t d. after_read window sfr d;
  writable = is_writable;
  after_write = λ window sfr value t d. after_write window sfr value d;
  started = λ t d. d;
}
