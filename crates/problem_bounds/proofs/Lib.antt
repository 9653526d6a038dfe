-- Colours that solutions give.
mod Colours
