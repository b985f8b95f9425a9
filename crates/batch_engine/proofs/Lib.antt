pub mod AllSay
