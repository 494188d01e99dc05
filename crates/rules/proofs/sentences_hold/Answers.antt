use mathlib.Core.Path.{refl}
use Rattle.rules.specs.Series.{days_before}
use Rattle.rules.specs.Strategy.{opening_refusal}
use Rattle.rules.specs.Prices.{derived, lower}
use Rattle.rules.specs.Filter.{filtered}
use Rattle.rules.specs.Book.{find, only, added, put_by_price, by_price}
use Rattle.rules.specs.Refusals.{refusal}
use Rattle.rules.specs.Auction.{eligible, ends_by_order, joins, ends_by_legs}
use Rattle.rules.specs.Share.{shares, in_turn}
use Rattle.rules.specs.Turn.{deal, insert, tiers, fill, turn}
use Rattle.rules.specs.LegPrices.{search, leg_prices, booked}
use Rattle.rules.specs.Execution.{interest, turn_of, settled, executed, execute, serve}
use Rattle.rules.specs.Step.{order_intake, take_in, steps, ending, records_of, prices_of, acted, accepted, step}
use Rattle.rules.specs.Run.{opening, answers, after}
use Rattle.rules.specs.Tape.{tape_refusal, strategy_of, messages_of, tape_of}
use Rattle.rules.specs.Average.{average_for, averages}
use Rattle.rules.specs.Print.{lines_from, lines_of}
use Rattle.rules.specs.Sentences.{SentencesHold}
use Rattle.rules.proofs.sentences_hold.Goals as goal

-- Sentences of documents 01 and 02: the rules compute what the table says.

-- each row, computed
all_hold : SentencesHold
unfolding SentencesHold days_before opening_refusal derived lower filtered find only added put_by_price by_price refusal eligible ends_by_order joins ends_by_legs shares in_turn deal insert tiers fill turn search leg_prices booked interest turn_of settled executed execute serve order_intake take_in steps ending records_of prices_of acted accepted step opening answers after tape_refusal strategy_of messages_of tape_of average_for averages lines_from lines_of
all_hold = refl

pub returns : goal.returns
returns c = all_hold
