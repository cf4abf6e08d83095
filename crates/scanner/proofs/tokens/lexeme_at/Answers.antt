-- `scanner::tokens::lexeme_at` meets its contract: a word, a range, or one byte. Assumes nothing.
use native.Mathlib.Omega.{arith}
use Rattle.scanner.proofs.Tokenizing.{range_within, word_scanned, range_scanned, sign_scanned}
use Rattle.scanner.proofs.tokens.lexeme_at.Goals as goal

pub returns-then-is_letter : goal.returns-then-is_letter
returns-then-is_letter c =
    word_scanned c.args.text.now c.args.at c.requires _ _ c.if-is_letter.ensures c.letters_from-word.ensures c.word_token-token.ensures

pub bounds-text-at-then-range_at : goal.bounds-text-at-then-range_at
bounds-text-at-then-range_at c = omega (arith, range_within c.args.text.now c.args.at c.if-range_at.ensures)

pub bounds-text-at-then-range_at-2 : goal.bounds-text-at-then-range_at-2
bounds-text-at-then-range_at-2 c = omega (arith, range_within c.args.text.now c.args.at c.if-range_at.ensures)

pub returns-then-range_at : goal.returns-then-range_at
returns-then-range_at c = range_scanned c.args.text.now c.args.at c.requires c.if-is_letter.ensures c.if-range_at.ensures

pub returns : goal.returns
returns c =
    sign_scanned c.args.text.now c.args.at c.requires c.if-is_letter.ensures _ c.if-range_at.ensures (c.sign_of-token.ensures _ _)
