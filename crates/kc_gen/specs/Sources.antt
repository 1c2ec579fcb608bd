-- The sources of a made input: the three modules of the engine program, with changes that depend on the input's number
-- (this kit's own).
use Rattle.std.specs.Prelude.{ℕ, zero, suc, ◌+◌, ◌%◌, List, ◌++◌, codes, decimal, flat_map}
use Rattle.std.specs.List.{range_with_len}
use Rattle.kc_gen.specs.Randoms.{random}

-- the module that sets the board up and waits
abbrev pub main_text : List ℕ
main_text =
    codes "MAIN MODULE\n"
    ++ codes " PUBLIC TIME\n"
    ++ codes " EXTRN CRANK,LOGINI\n"
    ++ codes " RSEG AT 1CH\n"
    ++ codes "TIME: DSW 1\n"
    ++ codes " CSEG AT 2004H\n"
    ++ codes " DCW CRANK\n"
    ++ codes " CSEG\n"
    ++ codes " LD 18H,#STACK\n"
    ++ codes " CALL LOGINI\n"
    ++ codes " LDB 03H,#01H\n"
    ++ codes " LDB 15H,#01H\n"
    ++ codes " LDB 08H,#0CH\n"
    ++ codes " EI\n"
    ++ codes "L: SJMP L\n"
    ++ codes " SSEG 16\n"
    ++ codes " END\n"

-- the module that schedules a pulse for each event: after the first delay two outputs rise, after the second they fall
abbrev pub crank_text : ℕ → ℕ → List ℕ
crank_text rise fall =
    codes "CRANKS MODULE\n"
    ++ codes " PUBLIC CRANK\n"
    ++ codes " RSEG\n"
    ++ codes " EXTRN TIME\n"
    ++ codes " CSEG\n"
    ++ codes "HSO MACRO CMD,DT\n"
    ++ codes " LDB 06H,#CMD\n"
    ++ codes " ADD 04H,TIME,#DT\n"
    ++ codes " ENDM\n"
    ++ codes "CRANK: PUSHA\n"
    ++ codes " LD TIME,04H\n"
    ++ codes " HSO 36H," ++ decimal rise ++ codes "\n"
    ++ codes " HSO 06H," ++ decimal fall ++ codes "\n"
    ++ codes " POPA\n"
    ++ codes " RET\n"
    ++ codes " END\n"

-- a line with a word of data
abbrev pub word_line : ℕ → List ℕ
word_line value = codes " DCW " ++ decimal value ++ codes "\n"

-- so many words of data, the random numbers of the input
unfoldable pub word_lines : ℕ → ℕ → List ℕ
word_lines number count = flat_map (λ k. word_line (random number k)) (range_with_len 0 count)

-- the module that has the transfer server log the time of each pulse, with an interrupt routine and data
abbrev pub log_text : ℕ → List ℕ
log_text number =
    codes "LOGS MODULE\n"
    ++ codes " PUBLIC LOGINI\n"
    ++ codes " RSEG\n"
    ++ codes " EXTRN TIME\n"
    ++ codes " RSEG AT 40H\n"
    ++ codes "CB: DSB 8\n"
    ++ codes " RSEG AT 60H\n"
    ++ codes "LOG: DSW 8\n"
    ++ codes " CSEG AT 2046H\n"
    ++ codes " DCW CB\n"
    ++ codes " CSEG AT 2006H\n"
    ++ codes " DCW AGAIN\n"
    ++ codes " CSEG\n"
    ++ codes "LOGINI: LDB 14H,#01H\n"
    ++ codes " LD 04H,#0008H\n"
    ++ codes " LDB 14H,#00H\n"
    ++ codes " LD CB,#0000H\n"
    ++ codes " LD CB+2,#TIME\n"
    ++ codes " LD CB+4,#LOG\n"
    ++ codes " LDB CB+6,#1\n"
    ++ codes " EPTS\n"
    ++ codes " RET\n"
    ++ codes "AGAIN: PUSHA\n"
    ++ codes " LDB 14H,#01H\n"
    ++ codes " LD 04H,#0008H\n"
    ++ codes " LDB 14H,#00H\n"
    ++ codes " POPA\n"
    ++ codes " RET\n"
    ++ word_lines number 1000
    ++ codes " END\n"

-- the text of a module: 0 main, 1 crank, 2 log
abbrev pub program_text : ℕ → ℕ → List ℕ
program_text number zero = main_text
program_text number (suc zero) = crank_text (10 + number % 8) (14 + number % 8)
program_text number _ = log_text number
