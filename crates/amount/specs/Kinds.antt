-- The kinds of rows, as document 01 lists them.
use Rattle.std.specs.Prelude.{ℕ}

-- ---- entries

abbrev pub blank_kind : ℕ
blank_kind = 1

abbrev pub option_kind : ℕ
option_kind = 2

abbrev pub include_kind : ℕ
include_kind = 3

abbrev pub pushtag_kind : ℕ
pushtag_kind = 4

abbrev pub poptag_kind : ℕ
poptag_kind = 5

abbrev pub transaction_kind : ℕ
transaction_kind = 6

abbrev pub price_kind : ℕ
price_kind = 7

abbrev pub balance_kind : ℕ
balance_kind = 8

abbrev pub open_kind : ℕ
open_kind = 9

abbrev pub close_kind : ℕ
close_kind = 10

abbrev pub pad_kind : ℕ
pad_kind = 11

abbrev pub commodity_kind : ℕ
commodity_kind = 12

abbrev pub event_kind : ℕ
event_kind = 13

-- ---- details: kinds from 20 on

abbrev pub first_detail : ℕ
first_detail = 20

abbrev pub flag_kind : ℕ
flag_kind = 20

abbrev pub payee_kind : ℕ
payee_kind = 21

abbrev pub narration_kind : ℕ
narration_kind = 22

abbrev pub tag_kind : ℕ
tag_kind = 23

abbrev pub link_kind : ℕ
link_kind = 24

abbrev pub account_kind : ℕ
account_kind = 25

abbrev pub amount_kind : ℕ
amount_kind = 26

abbrev pub tolerance_kind : ℕ
tolerance_kind = 27

abbrev pub cost_kind : ℕ
cost_kind = 28

abbrev pub unit_price_kind : ℕ
unit_price_kind = 29

abbrev pub total_price_kind : ℕ
total_price_kind = 30

abbrev pub currency_kind : ℕ
currency_kind = 31

abbrev pub booking_kind : ℕ
booking_kind = 32

abbrev pub posting_kind : ℕ
posting_kind = 33

abbrev pub string_kind : ℕ
string_kind = 34

-- metadata with a string, a number, a currency
abbrev pub string_meta_kind : ℕ
string_meta_kind = 35

abbrev pub number_meta_kind : ℕ
number_meta_kind = 36

abbrev pub currency_meta_kind : ℕ
currency_meta_kind = 37

-- a block that recovering reading refuses
abbrev pub refusal_kind : ℕ
refusal_kind = 90
