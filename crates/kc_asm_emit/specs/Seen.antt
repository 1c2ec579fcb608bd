-- What calls answer, as the definitions see it.
use Rattle.std.specs.Prelude.{ℕ, min}
use Rattle.kc_asm_emit.specs.declared.content.Content.{Content as Made}
use Rattle.kc_asm_emit.specs.declared.content.Content.TheVariants as made
use Rattle.kc_asm_emit.specs.declared.extent.Extent.{Extent}
use Rattle.kc_asm_emit.specs.declared.extent.Extent.TheVariants as extent
use Rattle.kc_asm_emit.specs.Content.{Content, Nothing, RelocatableBytes, Reserved, Upto, Even}

-- a content without where its relocatable bytes lie in memory
abbrev pub seen : Made → Content
seen made.Nothing = Nothing
seen (made.RelocatableBytes os) = RelocatableBytes os.items
seen (made.Reserved n) = Reserved n
seen (made.Upto place) = Upto place
seen made.Even = Even

-- the most bytes of one statement that are counted: no statement of a source has as many
abbrev pub most : ℕ
most = 16777215

-- a count stops there
abbrev pub counted : Extent → Extent
counted (extent.Bytes n) = extent.Bytes (min n most)
counted (extent.Upto place) = extent.Upto place
counted extent.Even = extent.Even
